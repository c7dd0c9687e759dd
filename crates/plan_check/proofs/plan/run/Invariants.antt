use Rattle.std.proofs.Common.{◌≤◌, ◌*◌, take}
use Rattle.task_model.specs.Initial.{initial_state}
use Rattle.task_model.specs.Plans.{Executes}
use Rattle.plan_check.proofs.plan.run.Given as goal

-- the steps that were passed are executed
abbrev pub invariant-loop-place : goal.invariant-loop-place
invariant-loop-place g l =
    Executes l.task (g.L.Look.known l.look) (initial_state l.task) (take l.place l.steps) l.state l.cost × (l.cost ≤ 262144000000 * l.place)
