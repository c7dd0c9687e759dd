-- The step that a call of a plan stands for.
use Rattle.std.specs.Prelude.{ℕ, List, Option}
use Rattle.std.specs.List.{position}
use Rattle.std.specs.Option.{option_map, option_and_then}
use Rattle.task_model.specs.Known.{same_numbers}
use Rattle.task_model.specs.declared.domain.Action.{Action}
use Rattle.task_model.specs.declared.task.GroundAction.{GroundAction}
use Rattle.task_model.specs.declared.task.Task.{Task}
use Rattle.transcript_model.specs.Names.{places_of}
use Rattle.transcript_model.specs.declared.entry.Call.{Call}

-- the action of the task with this name
abbrev pub action_named : Task → List ℕ → Option ℕ
action_named task name = position (λ (a : Action). same_numbers name a.name) task.domain.actions

-- the step that a call stands for, where its action and its objects are known
abbrev pub step_named : Task → List (List ℕ) → Call → Option GroundAction
step_named task names call =
    option_and_then (λ action. option_map (λ args. record { action = action; args = args }) (places_of names call.args))
    (action_named task call.name)
