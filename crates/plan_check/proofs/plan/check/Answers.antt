use Rattle.std.proofs.Common.{◌≡◌, Bool, true, false, [], refl, subst}
use Rattle.task_model.specs.Initial.{initial_state}
use Rattle.task_model.specs.Plans.{Executes}
use Rattle.task_model.specs.Truth.{is_true, slots_of}
use Rattle.plan_check.specs.Faults.{StepsRun}
use Rattle.plan_check.proofs.FaultsLemmas.{run_fails}
use Rattle.plan_check.proofs.plan.check.Goals as goal

pub returns-in-Err-clause-err : goal.returns-in-Err-clause-err
returns-in-Err-clause-err g c =
    let task = c.args.task.now in
    let known = g.L.Look.known c.args.look.now in
    run_fails task known c.args.plan.now.steps c.in-Err.fault
    (subst (λ xs. StepsRun task known xs c.in-Err.fault) c.as_slice.ensures c.in-Err.ensures.err)

pub returns-then-meets_goal-clause-ok : goal.returns-then-meets_goal-clause-ok
returns-then-meets_goal-clause-ok g c =
    let task = c.args.task.now in
    let known = g.L.Look.known c.args.look.now in
    let runs = subst (λ xs. Executes task known (initial_state task) xs c.in-Ok.end.state c.in-Ok.end.cost) c.as_slice.ensures
    c.in-Ok.ensures.ok in
    (c.in-Ok.end.state, runs, c.meets_goal.ensures.0 c.if-meets_goal.true)

-- what would make the other false is false
false_else : (b r : Bool) → (b ≡ true → r ≡ true) → r ≡ false → b ≡ false
false_else true r so e = absurd (let f = so refl in cc)
false_else false r so e = refl

pub returns-clause-err : goal.returns-clause-err
returns-clause-err g c =
    let task = c.args.task.now in
    let known = g.L.Look.known c.args.look.now in
    let runs = subst (λ xs. Executes task known (initial_state task) xs c.in-Ok.end.state c.in-Ok.end.cost) c.as_slice.ensures
    c.in-Ok.ensures.ok in (
      c.in-Ok.end.state,
      c.in-Ok.end.cost,
      runs,
      false_else (is_true task.domain known c.in-Ok.end.state task.problem.goal (slots_of [])) c.meets_goal.result
          c.meets_goal.ensures.1 c.if-meets_goal.false,
    )
