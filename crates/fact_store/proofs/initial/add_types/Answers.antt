use Rattle.std.proofs.Common.{map, drop}
use Rattle.fact_store.proofs.GrowthLemmas.{between_same, facts_left}
use Rattle.fact_store.proofs.initial.add_types.Goals as goal
use Rattle.lemmas.proofs.Results.{on_err}
use Rattle.task_model.specs.Known.{type_fact, with_facts}

pub returns-in_err-add_type-clause-part : goal.returns-in_err-add_type-clause-part
returns-in_err-add_type-clause-part c =
    let left = map (λ s. type_fact s c.args.object) (drop c.loop-sort.sort-index c.args.sorts.now) in
    let all = with_facts c.args.facts.now.known.facts (map (λ s. type_fact s c.args.object) c.args.sorts.now) in
    on_err c.from_residual.result _
    (between_same c.args.facts.now.known.facts c.loop-sort.facts.known.facts c.add_type.new.facts.known.facts all
    c.in_err-add_type.ensures.err
    (c.loop-sort.invariant.grown, facts_left c.loop-sort.facts.known.facts left all c.loop-sort.invariant.facts))
