use Rattle.std.proofs.Common.{ℕ, List, Bor, sym, subst, ap, ◌∙◌}
use Rattle.shown_plan.proofs.SourcesTableLemmas.{same_value}
use Rattle.shown_plan.proofs.sources.source_of.Goals as goal
use Rattle.shown_plan.specs.Sources.{HasBest, found_in}

pub returns : goal.returns
returns c = λ entries value named has.
    let same = same_value c.value_of.result.now value (sym c.value_of.ensures ∙ named) in
    subst (HasBest entries value) (sym (c.in_ok-get.ensures.value ∙ ap (found_in (λ (k : Bor (List ℕ)). k.now) c.args.sources.now) same))
    has
