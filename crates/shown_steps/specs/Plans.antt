-- What is said of a plan by its steps as they are shown.
use Rattle.std.specs.Prelude.{◌≡◌, ℕ, List, map}
use Rattle.task_model.specs.Initial.{initial_state}
use Rattle.task_model.specs.Known.{Known}
use Rattle.task_model.specs.Plans.{Executes, IsValid}
use Rattle.task_model.specs.State.{Atoms}
use Rattle.task_model.specs.declared.task.GroundAction.{GroundAction}
use Rattle.task_model.specs.declared.task.Task.{Task}
use Rattle.transcript_model.specs.Calls.{call_of_step}
use Rattle.transcript_model.specs.declared.entry.Call.{Call}

module _ (task : Task) (known : Known) where
  -- the calls show these steps
  abbrev pub ShowsSteps : List Call → List GroundAction → Type 0
  ShowsSteps calls steps = calls ≡ map (call_of_step task known.names) steps

  -- the calls are steps that can be taken one after another
  pub record CanRun (calls : List Call) : Type 0 where
    pub steps : List GroundAction
    pub shown : ShowsSteps calls steps
    pub state : Atoms
    pub cost : ℕ
    pub runs : Executes task known (initial_state task) steps state cost

  -- they are a valid plan of this cost
  pub record IsPlan (calls : List Call) (cost : ℕ) : Type 0 where
    pub steps : List GroundAction
    pub shown : ShowsSteps calls steps
    pub valid : IsValid task known steps cost
