-- Edges are between items that are there.
use Rattle.std.specs.Prelude.{◌≡◌, ℕ, ◌<◌, length, true, Option, None, Some, slice_get}
use Rattle.std.proofs.Common.{sym, ap, ◌∙◌}
use Rattle.task_model.specs.Edges.{inside}
use Rattle.task_model.specs.declared.domain.Derived.{Derived}
use Rattle.task_model.specs.declared.domain.Domain.{Domain}
use Rattle.fit_check.specs.Tests.{item_leads, mentions_head}

nothing_from : (second : Option Derived) → mentions_head None second ≡ true → ⊥
nothing_from second e = absurd (cc)

nothing_to : (first : Option Derived) → mentions_head first None ≡ true → ⊥
nothing_to None e = absurd (cc)
nothing_to (Some d) e = absurd (cc)

pub items_within : (domain : Domain) (from to : ℕ) → item_leads domain from to ≡ true
    → (from < length domain.derived) × (to < length domain.derived)
items_within domain from to e = (
  inside domain.derived from (λ none.
      nothing_from (slice_get domain.derived to)
      (ap (λ o. mentions_head o (slice_get domain.derived to)) (sym none) ∙ e)),
  inside domain.derived to (λ none.
      nothing_to (slice_get domain.derived from) (ap (mentions_head (slice_get domain.derived from)) (sym none) ∙ e)),
)
