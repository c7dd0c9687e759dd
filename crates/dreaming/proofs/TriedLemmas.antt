-- What is kept by one trial.
use Rattle.std.proofs.Common.{◌≡◌, ℕ, ◌<◌, ◌≤◌, ◌∙◌, List, [], length, sym, ap, subst, arith, Option, Some, None}
use Rattle.std.specs.Ordering.{nat_cmp}
use Rattle.std.specs.Prelude.{IfSome, IfNone}
use Rattle.lemmas.specs.Lists.{AreAscending}
use Rattle.optimistic_set.specs.Dreamable.{Dreamable}
use Rattle.task_model.specs.declared.task.GroundAction.{GroundAction}
use Rattle.task_model.specs.declared.task.Task.{Task}
use Rattle.dreaming.proofs.KeptLemmas.{kept_is, some_kept, without_fewer}
use Rattle.dreaming.proofs.PlacesLemmas.{AreBelow}
use Rattle.dreaming.specs.Thinning.{IsKeptOf, AreNeededOf, IsTriedOf, IsValidWith, places_without, supported_places}
use Rattle.dreaming.specs.declared.trial.Kept.{Kept}

module _ (task : Task) (d : Dreamable) (steps : List GroundAction) (first others : List ℕ) where
  -- of the others alone
  pub tried_first : first ≡ [] → AreBelow d.list others → AreAscending nat_cmp others → (found : Option Kept)
      → IsTriedOf task d steps first others found → IfSome found (IsKeptOf task d steps)
  tried_first none below ascend (Some k) t =
      some_kept task d steps k others below ascend
      (t.0 ∙ ap (λ (ps : List ℕ). supported_places task d.base d.list ps others) none) t.1
  tried_first none below ascend None t = tt

  -- of what was kept, without some
  module _ (old : Kept) (from to : ℕ) (h : IsKeptOf task d steps old) (some : from < to) (most : to ≤ length old.places.items)
      (are : supported_places task d.base d.list first others ≡ places_without task d.base d.list old.places.items from to) where
    pub tried_kept : (found : Option Kept) → IsTriedOf task d steps first others found
        → IfSome found (IsKeptOf task d steps)
    tried_kept (Some k) t = kept_is task d steps old k from to h (omega (arith, some)) (t.0 ∙ are) t.1
    tried_kept None t = tt

    pub tried_fewer : (found : Option Kept) → IsTriedOf task d steps first others found
        → IfSome found (λ k. length k.places.items < length old.places.items)
    tried_fewer (Some k) t =
        subst (λ (ps : List ℕ). length ps < length old.places.items) (sym (t.0 ∙ are))
        (without_fewer task d.base d.list old.places.items from to some most)
    tried_fewer None t = tt

    pub tried_needed : (found : Option Kept) → IsTriedOf task d steps first others found
        → IfNone found (AreNeededOf task d steps old.places.items from to)
    tried_needed (Some k) t = tt
    tried_needed None t = subst (λ (ps : List ℕ). (cost : ℕ) → ¬ (IsValidWith task d steps ps cost)) are t
