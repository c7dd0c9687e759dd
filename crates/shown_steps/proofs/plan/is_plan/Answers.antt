use Rattle.std.proofs.Common.{subst}
use Rattle.shown_steps.proofs.PlansLemmas.{plan_is_run, stuck_no_plan}
use Rattle.shown_steps.specs.Runs.{IsRan}
use Rattle.shown_steps.proofs.plan.is_plan.Goals as goal

pub returns-in-Stops : goal.returns-in-Stops
returns-in-Stops g c =
    let known = g.L.Look.known c.args.look.now in
    stuck_no_plan c.args.task.now known c.args.calls.now c.in-Stops.field-0
    (subst (IsRan c.args.task.now known c.args.calls.now) c.in-Stops.is c.in_ok-run_steps.ensures)

pub returns-in-Ends : goal.returns-in-Ends
returns-in-Ends g c =
    let known = g.L.Look.known c.args.look.now in
    plan_is_run c.args.task.now c.requires.fit known (g.met.L.Look.coherent c.args.look.now) c.args.calls.now c.in-Ends.run'
    (subst (IsRan c.args.task.now known c.args.calls.now) c.in-Ends.is c.in_ok-run_steps.ensures)
    c.reaches_goal.result c.reaches_goal.ensures
