use Rattle.std.proofs.Common.{ℕ, ◌⊎◌, List, [], ◌∷◌, ◌++◌, Option, IsSome, Bor, refl, sym, subst, ap, ◌∙◌}
use Rattle.std.specs.Map.{lookup}
use Rattle.shown_plan.proofs.SourcesTableLemmas.{others_stay, noted}
use Rattle.shown_plan.proofs.sources.note_value.Goals as goal
use Rattle.shown_plan.specs.Sources.{HasBest}
use Rattle.shown_plan.specs.declared.source.Source.{Source}
use Rattle.task_model.specs.Known.{same_numbers}

pub returns-in-Some-clause-here : goal.returns-in-Some-clause-here
returns-in-Some-clause-here c = λ before old.
    let value = c.args.value.now in
    let e = c.args.entry.now in
    let is = c.in-Some.ensures.value in
    let new = ((c.get_mut.follows.holds c.earlier.result).3 (subst (λ (o : Option (Option Source)). IsSome o) is refl)).1 in
    subst (HasBest (before ++ e ∷ []) value) (sym new)
    (noted before e value c.in-Some.best.now c.source_in.result c.earlier.result
    (subst (λ (o : Option (Option Source)). HasBest before value o ⊎ HasBest (before ++ e ∷ []) value o) (sym is) old)
    c.source_in.ensures.none c.source_in.ensures.some c.earlier.ensures.one c.earlier.ensures.least_best
    c.earlier.ensures.least_found c.earlier.ensures.none)

pub returns-in-Some-clause-others : goal.returns-in-Some-clause-others
returns-in-Some-clause-others c = λ other differs.
    ap (lookup (λ (k : Bor (List ℕ)). same_numbers other k.now)) (c.get_mut.follows.holds c.earlier.result).0
    ∙ others_stay (λ (k : Bor (List ℕ)). k.now) c.args.value.now other c.args.sources.now.entries c.earlier.result differs
