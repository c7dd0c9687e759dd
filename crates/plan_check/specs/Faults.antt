-- When a step isn't applicable, and when a plan isn't valid.
use Rattle.std.specs.Prelude.{◌≡◌, ℕ, List, [], take, true, false, Some, None, slice_get}
use Rattle.task_model.specs.Initial.{initial_state}
use Rattle.task_model.specs.Known.{Known}
use Rattle.task_model.specs.Plans.{Executes}
use Rattle.task_model.specs.State.{Atoms}
use Rattle.task_model.specs.Steps.{cost_of}
use Rattle.task_model.specs.Truth.{slots_of, have_types, is_true}
use Rattle.task_model.specs.declared.domain.Action.{Action}
use Rattle.task_model.specs.declared.task.GroundAction.{GroundAction}
use Rattle.task_model.specs.declared.task.Task.{Task}
use Rattle.plan_check.specs.declared.fault.CheckFault.{CheckFault}
use Rattle.plan_check.specs.declared.fault.CheckFault.TheVariants as check
use Rattle.plan_check.specs.declared.fault.StepFault.{StepFault}
use Rattle.plan_check.specs.declared.fault.StepFault.TheVariants.{NoAction, Args, Condition, NoCost, Memory}

-- ---- steps, the parts of which are tested in this order

-- the step names this action
abbrev pub Names : Task → GroundAction → Action → Type 0
Names task step action = slice_get task.domain.actions step.action ≡ Some action

-- this part of the step is the first that fails
abbrev pub StepFails : Task → Known → Atoms → GroundAction → StepFault → Type 0
StepFails task known state step NoAction = slice_get task.domain.actions step.action ≡ None
StepFails task known state step Args =
    (a : Action) × Names task step a × (have_types known step.args a.params ≡ false)
StepFails task known state step Condition =
    (a : Action) × Names task step a × (have_types known step.args a.params ≡ true)
    × (is_true task.domain known state a.condition (slots_of step.args) ≡ false)
StepFails task known state step NoCost =
    (a : Action) × Names task step a × (have_types known step.args a.params ≡ true)
    × (is_true task.domain known state a.condition (slots_of step.args) ≡ true)
    × (cost_of task known a step.args ≡ None)
StepFails task known state step Memory = Unit {0}

-- ---- plans

-- the steps before this place can be executed, and the step there fails so
abbrev pub FailsAt : Task → Known → List GroundAction → ℕ → StepFault → Type 0
FailsAt task known steps place fault =
    (state : Atoms) × (cost : ℕ) × (step : GroundAction)
    × Executes task known (initial_state task) (take place steps) state cost × (slice_get steps place ≡ Some step)
    × StepFails task known state step fault

-- the fault of a step as one of a plan
abbrev pub fault_at : ℕ → StepFault → CheckFault
fault_at place NoAction = check.NoAction place
fault_at place Args = check.Args place
fault_at place Condition = check.Condition place
fault_at place NoCost = check.NoCost place
fault_at place Memory = check.Memory

-- the first step that isn't applicable is such
abbrev pub StepsRun : Task → Known → List GroundAction → CheckFault → Type 0
StepsRun task known steps (check.NoAction place) = FailsAt task known steps place NoAction
StepsRun task known steps (check.Args place) = FailsAt task known steps place Args
StepsRun task known steps (check.Condition place) = FailsAt task known steps place Condition
StepsRun task known steps (check.NoCost place) = FailsAt task known steps place NoCost
StepsRun task known steps check.Goal = ⊥
StepsRun task known steps check.Memory = Unit {0}

-- this is the first thing that is wrong with the plan
abbrev pub PlanFails : Task → Known → List GroundAction → CheckFault → Type 0
PlanFails task known steps (check.NoAction place) = FailsAt task known steps place NoAction
PlanFails task known steps (check.Args place) = FailsAt task known steps place Args
PlanFails task known steps (check.Condition place) = FailsAt task known steps place Condition
PlanFails task known steps (check.NoCost place) = FailsAt task known steps place NoCost
PlanFails task known steps check.Goal =
    (state : Atoms) × (cost : ℕ) × Executes task known (initial_state task) steps state cost
    × (is_true task.domain known state task.problem.goal (slots_of []) ≡ false)
PlanFails task known steps check.Memory = Unit {0}
