use Rattle.std.proofs.Common.{◌+◌, sym, subst, take, arith, add-one}
use Rattle.lemmas.proofs.ListTests.{get_some}
use Rattle.task_model.specs.Initial.{initial_state}
use Rattle.task_model.specs.Plans.{Executes}
use Rattle.plan_check.specs.Faults.{StepsRun}
use Rattle.plan_check.proofs.FaultsLemmas.{next_step, fails_here}
use Rattle.plan_check.proofs.plan.run.Goals as goal

pub returns-in-Err-clause-err : goal.returns-in-Err-clause-err
returns-in-Err-clause-err g c =
    let task = c.args.task.now in
    let known = g.L.Look.known c.args.look.now in
    let at = get_some c.args.steps.now c.loop-place.place c.index-steps-place.result c.loop-place-test.true c.index-steps-place.is in
    subst (StepsRun task known c.args.steps.now) (sym c.fault_at.ensures)
    (fails_here task known c.args.steps.now c.loop-place.place c.index-steps-place.result c.loop-place.state c.loop-place.cost
    c.in-Err.fault at c.loop-place.invariant.0 c.in-Err.ensures.err)

pub loop-place-preserved : goal.loop-place-preserved
loop-place-preserved g c =
    let task = c.args.task.now in
    let known = g.L.Look.known c.args.look.now in
    let at = get_some c.args.steps.now c.loop-place.place c.index-steps-place.result c.loop-place-test.true c.index-steps-place.is in
    let next = next_step task known c.args.steps.now c.loop-place.place c.index-steps-place.result c.loop-place.state c.advance.new.state
    c.loop-place.cost c.in-Ok-advance.more at c.loop-place.invariant.0 c.in-Ok-advance.ensures.ok in (
      subst (λ n. Executes task known (initial_state task)
          (take n c.args.steps.now) c.advance.new.state (c.loop-place.cost + c.in-Ok-advance.more)) (sym (add-one c.loop-place.place)) next,
      omega (arith, c.loop-place.invariant.1, c.in-Ok-advance.ensures.small),
    )
