use Rattle.std.proofs.Common.{sym, subst, All, length}
use Rattle.lemmas.proofs.ListTests.{all_at_or}
use Rattle.fact_store.proofs.InitialLemmas.{value_objects}
use Rattle.fact_store.proofs.initial.add_values.Goals as goal
use Rattle.task_model.specs.Fit.{is_fit_value}
use Rattle.task_model.specs.Known.{IsIn}

pub add_value-requires-clause-objects : goal.add_value-requires-clause-objects
add_value-requires-clause-objects c =
    let fit = all_at_or (is_fit_value c.args.domain.now (length c.args.facts.now.known.names)) c.args.values.now c.loop-valued.valued-index
    c.valued-item.result c.requires c.loop-valued-test.true c.valued-item.is in
    subst (λ os. All (IsIn c.loop-valued.facts.known.names) os) (sym c.in_ok-copy.ensures.objects)
    (subst (λ ns. All (IsIn ns) c.valued-item.result.args)
    (sym c.loop-valued.invariant.names) (value_objects c.args.domain.now c.args.facts.now.known.names c.valued-item.result fit))
