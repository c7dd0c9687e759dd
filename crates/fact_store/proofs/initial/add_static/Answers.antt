use Rattle.std.proofs.Common.{sym, subst, All, length}
use Rattle.lemmas.proofs.ListTests.{all_at_or}
use Rattle.fact_store.proofs.InitialLemmas.{fact_place, fact_objects}
use Rattle.fact_store.proofs.initial.add_static.Goals as goal
use Rattle.task_model.specs.Fit.{is_fit_fact}
use Rattle.task_model.specs.Known.{IsIn}

pub is_static_fact-requires-clause-place : goal.is_static_fact-requires-clause-place
is_static_fact-requires-clause-place c =
    fact_place c.args.domain.now (length c.args.facts.now.known.names) c.fact-item.result
    (all_at_or (is_fit_fact c.args.domain.now (length c.args.facts.now.known.names)) c.args.init.now c.loop-fact.fact-index
    c.fact-item.result c.requires.fit c.loop-fact-test.true c.fact-item.is)

pub add_uncovered-requires : goal.add_uncovered-requires
add_uncovered-requires c =
    let fit = all_at_or (is_fit_fact c.args.domain.now (length c.args.facts.now.known.names)) c.args.init.now c.loop-fact.fact-index
    c.fact-item.result c.requires.fit c.loop-fact-test.true c.fact-item.is in
    subst (λ f. All (IsIn c.loop-fact.facts.known.names) f.args) (sym c.in_ok-copy.ensures)
    (subst (λ ns. All (IsIn ns) c.fact-item.result.args)
    (sym c.loop-fact.invariant.names) (fact_objects c.args.domain.now c.args.facts.now.known.names c.fact-item.result fit))
