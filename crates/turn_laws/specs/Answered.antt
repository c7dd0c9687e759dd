-- A run in incremental mode whose generators answer by a table.
use Rattle.std.specs.Prelude.{◌≡◌, List}
use Rattle.turn_laws.specs.Lazy.{IsFewDue, IsLazy, IsLazyEnd}
use Rattle.task_model.specs.declared.task.Task.{Task}
use Rattle.transcript_model.specs.Outcomes.{IsTrueOutcome, MayStand}
use Rattle.transcript_model.specs.Rounds.{Limits}
use Rattle.transcript_model.specs.Tables.{AgreesWith, Answers}
use Rattle.transcript_model.specs.Turns.{AreTurnsOf, Stage}
use Rattle.transcript_model.specs.declared.entry.Entry.{Entry}
use Rattle.transcript_model.specs.declared.head.Mode.TheVariants.{Incremental}
use Rattle.transcript_model.specs.declared.outcome.Outcome.{Outcome}

-- The transcript is one of whole levels, each of which began where it was needed, its answers are the table's, and the
-- outcome may stand there and is true.
pub record IsAnsweredRun (limits : Limits) (task : Task) (answers : Answers) (entries : List Entry) (stage : Stage)
    (o : Outcome) : Type 0 where
  pub mode : limits.mode ≡ Incremental
  pub agrees : AgreesWith limits.version task answers entries
  pub turns : AreTurnsOf Incremental limits task entries stage
  pub lazy : IsLazy limits task entries
  pub stands : MayStand stage o
  pub claim : IsTrueOutcome limits task entries o
  pub end : IsLazyEnd limits task entries stage o
  pub few : IsFewDue task entries stage o
