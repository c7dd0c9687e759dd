-- A step of a plan, by the names of its action and its objects: what it does, or why it can't be taken.
use Rattle.std.specs.Prelude.{◌≡◌, ℕ, ◌≤◌, ◌==◌, if◌then◌else◌, List, length, Option, Some, None, slice_get, ⊤}
use Rattle.std.specs.Option.{option_and_then}
use Rattle.shown_steps.specs.Steps.{action_named, step_named}
use Rattle.task_model.specs.Known.{Known}
use Rattle.task_model.specs.State.{Atoms}
use Rattle.task_model.specs.Steps.{IsStep, cost_of}
use Rattle.task_model.specs.Truth.{have_types, is_true, slots_of}
use Rattle.task_model.specs.declared.domain.Action.{Action}
use Rattle.task_model.specs.declared.task.GroundAction.{GroundAction}
use Rattle.task_model.specs.declared.task.Task.{Task}
use Rattle.transcript_model.specs.Names.{places_of}
use Rattle.transcript_model.specs.declared.entry.Call.{Call}
use Rattle.validate_app.specs.Parts.{false_text}
use Rattle.validate_app.specs.declared.step.Taken.{Taken}
use Rattle.validate_app.specs.declared.step.Taken.TheVariants.{Costs, Fails}
use Rattle.validate_app.specs.declared.verdict.StepFlaw.{StepFlaw}
use Rattle.validate_app.specs.declared.verdict.StepFlaw.TheVariants as flaw

-- the task's action of this name
abbrev pub action_called : Task → List ℕ → Option Action
action_called task name = option_and_then (slice_get task.domain.actions) (action_named task name)

-- a cost without a value
abbrev pub cost_flaw : Option ℕ → Option StepFlaw
cost_flaw None = Some flaw.Cost
cost_flaw (Some cost) = None

module _ (task : Task) (known : Known) (state : Atoms) where
  -- what is wrong with a step of this action and these objects
  abbrev pub flaw_with : Action → List ℕ → Option StepFlaw
  flaw_with a objects =
      if have_types known objects a.params
      then (if is_true task.domain known state a.condition (slots_of objects) then cost_flaw
      (cost_of task known a objects)
      else Some (flaw.Condition (false_text task known state a.condition objects)))
      else Some flaw.Sort

  -- the same where an argument may be the name of no object
  abbrev pub flaw_over : Action → Option (List ℕ) → Option StepFlaw
  flaw_over a None = Some flaw.Object
  flaw_over a (Some objects) = flaw_with a objects

  -- the same where there may be no action of the name
  abbrev pub flaw_of : Option Action → List (List ℕ) → Option StepFlaw
  flaw_of None args = Some flaw.Action
  flaw_of (Some a) args =
      if length args == length a.params then flaw_over a (places_of known.names args) else Some flaw.Args

  -- Why the step that a call shows can't be taken in the state: the first of these tests that it fails. The domain has
  -- the action; there are as many arguments as parameters; they are names of objects; these have the parameters' types;
  -- the condition is true, else the part that makes it false is told; the cost has a value.
  abbrev pub first_flaw : Call → Option StepFlaw
  first_flaw call = flaw_of (action_called task call.name) call.args

-- The step that the call shows was taken and costs so much; or it can't be, and the state is as before.
abbrev pub IsTakenStep : Task → Known → Atoms → Call → Atoms → Taken → Type 0
IsTakenStep task known before call after (Costs cost) =
    (step : GroundAction) × (step_named task known.names call ≡ Some step) × IsStep task known before step after cost
IsTakenStep task known before call after (Fails why) =
    (first_flaw task known before call ≡ Some why) × (after ≡ before)

-- this is why the step that the call shows can't be taken
abbrev pub IsStepFlawed : Task → Known → Atoms → Call → Taken → Type 0
IsStepFlawed task known state call (Costs cost) = ⊥
IsStepFlawed task known state call (Fails why) = first_flaw task known state call ≡ Some why

-- a step costs at most what 2^18 terms of 1,000,000 each do
abbrev pub IsSmallStep : Taken → Type 0
IsSmallStep (Costs cost) = cost ≤ 262144000000
IsSmallStep (Fails why) = ⊤

-- the call is one of an action of the task, with as many arguments as that has parameters
abbrev pub HasItsArguments : Task → Call → Type 0
HasItsArguments task call =
    (a : Action) × (action_called task call.name ≡ Some a) × (length call.args ≡ length a.params)
