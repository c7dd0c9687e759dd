-- What a run comes to where its generators answer by a table.
use Rattle.std.specs.Prelude.{◌≡◌, ℕ, List, Option}
use Rattle.io_world.specs.Talks.{Talk}
use Rattle.turn_laws.specs.Lazy.{IsFewDue, IsLazy, IsLazyEnd}
use Rattle.turn_laws.specs.PlainLaws.{IsSettledOutcome}
use Rattle.turn_laws.specs.Own.{own_rows}
use Rattle.round_run.specs.Dialogue.{Dialogue, workers_in}
use Rattle.table_runs.specs.Asking.{AnsweredBy, GoToPools}
use Rattle.task_model.specs.declared.task.Task.{Task}
use Rattle.transcript_model.specs.Legal.{HasNoneOpen, IsLegal}
use Rattle.transcript_model.specs.Outcomes.{IsTrueOutcome, MayStand}
use Rattle.transcript_model.specs.Plain.{IsAsPlain}
use Rattle.transcript_model.specs.Rounds.{limits_of}
use Rattle.transcript_model.specs.Tables.{Answers, IsBounded, reply_in}
use Rattle.transcript_model.specs.Turns.{AreTurnsOf, Stage}
use Rattle.transcript_model.specs.declared.entry.Entry.{Entry}
use Rattle.transcript_model.specs.declared.head.Head.{Head}
use Rattle.transcript_model.specs.declared.head.Mode.TheVariants.{Incremental}
use Rattle.transcript_model.specs.declared.outcome.LimitKind.TheVariants.{States}
use Rattle.transcript_model.specs.declared.outcome.Outcome.{Outcome}
use Rattle.transcript_model.specs.declared.outcome.Outcome.TheVariants as outcome

-- A run of a head, with its outcome, and what was said with its children: a legal transcript of whole turns of the
-- head's mode, or one after a batch that was cut, each of which began where it was needed; no request is open; the
-- outcome may stand there and is true, and a limit stands only where a further turn is needed; this was its dialogue,
-- and each request went to a child of the pools.
pub record IsTalkedRun (task : Task) (head : Head) (entries : List Entry) (stage : Stage) (o : Outcome)
    (spoken : ℕ → Option Talk) : Type 0 where
  pub legal : IsLegal head.version task entries
  pub turns : AreTurnsOf head.mode (limits_of head) task entries stage
  pub lazy : IsLazy (limits_of head) task entries
  pub stands : MayStand stage o
  pub claim : IsTrueOutcome (limits_of head) task entries o
  pub end : IsLazyEnd (limits_of head) task entries stage o
  pub few : IsFewDue task entries stage o
  pub closed : HasNoneOpen entries
  pub talks : Dialogue task head.version (workers_in head) entries spoken
  pub served : GoToPools task (workers_in head) entries

-- What such a run comes to. Where each child that is asked speaks by some answers, as those of a table, it is in
-- incremental mode as the plain run over them, unless it ends with the limit of states; and in any mode it ends with a
-- plan or with none, where every transcript that agrees with them stays within the head's limits. Whatever children
-- say, in incremental mode it is as the plain run over the table of its own answers, with the same exception.
pub record IsTabled (task : Task) (head : Head) (entries : List Entry) (spoken : ℕ → Option Talk)
    (o : Outcome) : Type 0 where
  pub plain : (answers : Answers) → AnsweredBy head.version task (workers_in head) answers entries spoken
      → head.mode ≡ Incremental → ¬ (o ≡ outcome.Limit States) → IsAsPlain task answers head.calls entries o
  pub settled : (answers : Answers) → AnsweredBy head.version task (workers_in head) answers entries spoken
      → IsBounded head.version task answers head.calls head.states → IsSettledOutcome o
  pub own : head.mode ≡ Incremental → ¬ (o ≡ outcome.Limit States)
      → IsAsPlain task (reply_in (own_rows entries)) head.calls entries o
