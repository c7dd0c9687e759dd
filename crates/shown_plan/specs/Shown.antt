-- How a plan is shown.
use Rattle.std.specs.Prelude.{◌≡◌, ℕ, ◌<◌, List, map, length, All}
use Rattle.task_model.specs.Fit.{IsFit}
use Rattle.task_model.specs.Known.{IsIn}
use Rattle.task_model.specs.declared.task.GroundAction.{GroundAction}
use Rattle.task_model.specs.declared.task.Task.{Task}
use Rattle.transcript_model.specs.Calls.{call_of_step}
use Rattle.transcript_model.specs.Legal.{IsLegal}
use Rattle.transcript_model.specs.Outcomes.{AreOrigins}
use Rattle.transcript_model.specs.Transcript.{names_of}
use Rattle.transcript_model.specs.declared.entry.Call.{Call}
use Rattle.transcript_model.specs.declared.entry.Entry.{Entry}
use Rattle.transcript_model.specs.declared.outcome.Origin.{Origin}
use Rattle.transcript_model.specs.declared.outcome.Outcome.{Outcome}
use Rattle.transcript_model.specs.declared.outcome.Outcome.TheVariants as outcome

-- each step's action is one of the task's, and its objects are in the table of names
pub record AreNamedSteps (task : Task) (names : List (List ℕ)) (steps : List GroundAction) : Type 0 where
  pub actions : All (λ (s : GroundAction). s.action < length task.domain.actions) steps
  pub objects : All (λ (s : GroundAction). All (IsIn names) s.args) steps

-- The entries are legal for a fit task, and the calls are steps by name, whose objects have names there.
pub record AreStepsByName (version : ℕ) (entries : List Entry) (calls : List Call) : Type 0 where
  pub task : Task
  pub fit : IsFit task
  pub legal : IsLegal version task entries
  pub steps : List GroundAction
  pub named : AreNamedSteps task (names_of task entries) steps
  pub shown : calls ≡ map (call_of_step task (names_of task entries)) steps

-- The outcome is a plan of this cost, whose calls are these steps by name, with the origins of its generated objects.
pub record ShowsPlan (version : ℕ) (task : Task) (entries : List Entry) (steps : List GroundAction)
    (cost : ℕ) (o : Outcome) : Type 0 where
  pub calls : List Call
  pub from : List Origin
  pub is : o ≡ outcome.Plan calls cost from
  pub shown : calls ≡ map (call_of_step task (names_of task entries)) steps
  pub origins : AreOrigins version entries calls from
