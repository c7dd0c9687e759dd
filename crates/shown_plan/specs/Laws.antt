-- Laws of the definitions. Each is the contract of a public function of `laws.rt`, and so is proved.
use Rattle.std.specs.Prelude.{ℕ, List}
use Rattle.task_model.specs.Known.{Known, IsCoherent}
use Rattle.task_model.specs.Plans.{IsValid}
use Rattle.task_model.specs.declared.task.GroundAction.{GroundAction}
use Rattle.task_model.specs.declared.task.Task.{Task}
use Rattle.transcript_model.specs.Outcomes.{IsTrueOutcome}
use Rattle.transcript_model.specs.Rounds.{Limits}
use Rattle.transcript_model.specs.Transcript.{known_of}
use Rattle.transcript_model.specs.declared.entry.Entry.{Entry}
use Rattle.transcript_model.specs.declared.outcome.Outcome.{Outcome}
use Rattle.shown_plan.specs.Shown.{AreNamedSteps, ShowsPlan}

-- The steps of a valid plan have actions of the task and objects with names.
abbrev pub ValidPlansHaveNames : Type 0
ValidPlansHaveNames =
    (task : Task) (known : Known) (steps : List GroundAction) (cost : ℕ) → IsCoherent known
    → IsValid task known steps cost → AreNamedSteps task known.names steps

-- An outcome that shows a valid plan is true.
abbrev pub ShownPlansAreTrue : Type 0
ShownPlansAreTrue =
    (limits : Limits) (task : Task) (entries : List Entry) (steps : List GroundAction) (cost : ℕ) (o : Outcome)
    → ShowsPlan limits.version task entries steps cost o → IsValid task (known_of task entries) steps cost
    → IsTrueOutcome limits task entries o
