-- How the steps of a plan are shown.
use Rattle.std.specs.Prelude.{ℕ, List, [], map, Option, Some, None, slice_get}
use Rattle.task_model.specs.Streams.{name_at}
use Rattle.task_model.specs.declared.domain.Action.{Action}
use Rattle.task_model.specs.declared.task.GroundAction.{GroundAction}
use Rattle.task_model.specs.declared.task.Task.{Task}
use Rattle.transcript_model.specs.declared.entry.Call.{Call}

-- the name of an action of the task
abbrev pub action_name : Task → ℕ → List ℕ
action_name task action = of (slice_get task.domain.actions action)
  where
    of : Option Action → List ℕ
    of (Some found) = found.name
    of None = []

-- a step, with the names of its objects
abbrev pub call_of_step : Task → List (List ℕ) → GroundAction → Call
call_of_step task names step =
    record { name = action_name task step.action; args = map (name_at names) step.args }
