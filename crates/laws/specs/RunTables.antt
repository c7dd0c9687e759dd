-- Runs whose generators answer by a table. Each law is the contract of a public function of `runs.rt`, and so is proved.
use Rattle.std.specs.Prelude.{◌≡◌, ℕ, List, Option}
use Rattle.io_world.specs.Talks.{Talk}
use Rattle.turn_run.specs.Reports.{IsRun}
use Rattle.round_run.specs.Batches.{IsRunnable}
use Rattle.round_run.specs.Dialogue.{Dialogue, workers_in}
use Rattle.table_runs.specs.Asking.{AnsweredBy, SpeaksBy}
use Rattle.task_model.specs.Fit.{IsFit}
use Rattle.task_model.specs.declared.task.Task.{Task}
use Rattle.transcript_model.specs.Plain.{SaysSame, end_of}
use Rattle.transcript_model.specs.Tables.{Answers, IsTable, TableRow, reply_in}
use Rattle.transcript_model.specs.Transcript.{known_of}
use Rattle.transcript_model.specs.declared.entry.Entry.{Entry}
use Rattle.transcript_model.specs.declared.head.Head.{Head}
use Rattle.transcript_model.specs.declared.head.Mode.TheVariants.{Incremental}
use Rattle.transcript_model.specs.declared.outcome.LimitKind.TheVariants.{States}
use Rattle.transcript_model.specs.declared.outcome.Outcome.{Outcome}
use Rattle.transcript_model.specs.declared.outcome.Outcome.TheVariants as outcome

-- A run in incremental mode, what was said with its children, and that each child that was asked spoke by these
-- answers, as those of a table. It didn't end with the limit of states.
pub record IsTableRun (task : Task) (head : Head) (answers : Answers) (entries : List Entry)
    (spoken : ℕ → Option Talk) (o : Outcome) : Type 0 where
  pub runnable : IsRunnable task head
  pub mode : head.mode ≡ Incremental
  pub run : IsRun task head entries o
  pub talks : Dialogue task head.version (workers_in head) entries spoken
  pub by : AnsweredBy head.version task (workers_in head) answers entries spoken
  pub not_states : ¬ (o ≡ outcome.Limit States)

-- Two such runs of one task over one table, with the same limit of calls, make the same requests and hear the same
-- answers, each in one order, have as many levels, know the same in the end and end in the same way; whatever their
-- pools and workers, the versions of their reports, and the moments at which lines came.
abbrev pub TablesNameRuns : Type 0
TablesNameRuns =
    (task : Task) (head other : Head) (answers : Answers) (xs ys : List Entry) (spoken told : ℕ → Option Talk)
    (o p : Outcome) → IsFit task → head.calls ≡ other.calls → IsTableRun task head answers xs spoken o
    → IsTableRun task other answers ys told p
    → SaysSame xs ys × (known_of task xs ≡ known_of task ys) × (end_of o ≡ end_of p)

-- What a child said by a table of protocol 1 it said by the same table in protocol 2, where that is one of the protocol
-- too: a generator of protocol 1 stays as it is.
abbrev pub EarlierTalksStay : Type 0
EarlierTalksStay =
    (task : Task) (rows : List TableRow) (talk : Talk) → IsTable 1 task rows → SpeaksBy 1 task (reply_in rows) talk
    → IsTable 2 task rows × SpeaksBy 2 task (reply_in rows) talk
