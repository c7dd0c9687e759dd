-- Laws of plain runs. Each is the contract of a public function of `plain.rt`, and so is proved.
use Rattle.std.specs.Prelude.{◌≡◌, ◌≤◌, ℕ, List, []}
use Rattle.turn_laws.specs.Answered.{IsAnsweredRun}
use Rattle.turn_laws.specs.Own.{own_rows}
use Rattle.task_model.specs.Fit.{IsFit}
use Rattle.task_model.specs.Plans.{IsReached, MoreThan}
use Rattle.task_model.specs.declared.task.Task.{Task}
use Rattle.transcript_model.specs.Legal.{HasNoneOpen, IsLegal, asks_of}
use Rattle.transcript_model.specs.Outcomes.{IsTrueOutcome}
use Rattle.transcript_model.specs.Plain.{IsAsPlain, IsPlainRun, PlainEnd, SaysSame, end_of}
use Rattle.transcript_model.specs.Rounds.{Limits}
use Rattle.transcript_model.specs.Tables.{AgreesWith, Answers, IsBounded, IsTable, reply_in}
use Rattle.transcript_model.specs.Transcript.{known_of, notes_of}
use Rattle.transcript_model.specs.Turns.{Stage}
use Rattle.transcript_model.specs.declared.entry.Entry.{Entry}
use Rattle.transcript_model.specs.declared.limits.TheConstants.{MOST_CALLS}
use Rattle.transcript_model.specs.declared.outcome.LimitKind.TheVariants.{States}
use Rattle.transcript_model.specs.declared.outcome.Outcome.{Outcome}
use Rattle.transcript_model.specs.declared.outcome.Outcome.TheVariants as outcome

-- What is known, noted and counted after transcripts that say the same is the same.
pub record KnowsSame (task : Task) (entries others : List Entry) : Type 0 where
  pub known : known_of task entries ≡ known_of task others
  pub notes : notes_of task entries ≡ notes_of task others
  pub asks : asks_of entries ≡ asks_of others

-- Transcripts that say the same know the same.
abbrev pub SaidIsKnown : Type 0
SaidIsKnown = (task : Task) (entries others : List Entry) → SaysSame entries others → KnowsSame task entries others

-- To one table of answers there is one plain run.
abbrev pub PlainRunsAreOne : Type 0
PlainRunsAreOne =
    (task : Task) (answers : Answers) (calls : ℕ) (xs ys : List Entry) (d e : PlainEnd)
    → IsPlainRun task answers calls [] xs d → IsPlainRun task answers calls [] ys e → (xs ≡ ys) × (d ≡ e)

-- What is asked, answered and known in a run whose answers are a table's, and how it ends, is what the plain run over
-- that table comes to: it is the same for any pools, and however answers come. Of a run that ends with the limit of
-- states nothing is said, since plain runs have none.
abbrev pub AnsweredRunsArePlain : Type 0
AnsweredRunsArePlain =
    (limits : Limits) (task : Task) (answers : Answers) (entries : List Entry) (stage : Stage) (o : Outcome)
    → IsFit task → IsAnsweredRun limits task answers entries stage o → ¬ (o ≡ outcome.Limit States)
    → IsAsPlain task answers limits.calls entries o

-- Runs with the same limit of calls over one table say the same, know the same in the end and end in the same way,
-- whatever their pools, unless one of them ends with the limit of states.
abbrev pub PoolsDoNotMatter : Type 0
PoolsDoNotMatter =
    (limits others : Limits) (task : Task) (answers : Answers) (xs ys : List Entry) (s t : Stage) (o p : Outcome)
    → IsFit task → limits.calls ≡ others.calls → IsAnsweredRun limits task answers xs s o
    → IsAnsweredRun others task answers ys t p → ¬ (o ≡ outcome.Limit States) → ¬ (p ≡ outcome.Limit States)
    → SaysSame xs ys × (known_of task xs ≡ known_of task ys) × (end_of o ≡ end_of p)

-- what a run ends with that isn't a limit
abbrev pub IsSettledOutcome : Outcome → Type 0
IsSettledOutcome (outcome.Plan steps cost from) = Unit {0}
IsSettledOutcome outcome.NoPlan = Unit {0}
IsSettledOutcome (outcome.Limit kind) = ⊥

-- Where every transcript that agrees with the table stays within the limits, a run in any mode whose answers are the
-- table's ends with a plan or with none.
abbrev pub BoundedRunsSettle : Type 0
BoundedRunsSettle =
    (limits : Limits) (task : Task) (answers : Answers) (entries : List Entry) (o : Outcome) → IsFit task
    → AgreesWith limits.version task answers entries → HasNoneOpen entries → IsTrueOutcome limits task entries o
    → IsBounded limits.version task answers limits.calls limits.states → limits.calls ≤ MOST_CALLS → IsSettledOutcome o

-- Such tables exist: where a task has no streams, and at first no more states are reached than the limit allows, every
-- table is one.
abbrev pub NoStreamsAreBounded : Type 0
NoStreamsAreBounded =
    (version : ℕ) (task : Task) (answers : Answers) (calls states : ℕ) → task.streams ≡ []
    → ¬ (MoreThan states (IsReached task (known_of task []))) → IsBounded version task answers calls states

-- What is answered in a legal transcript is a table, a row for each request, and the transcript agrees with it.
abbrev pub TranscriptsHaveTables : Type 0
TranscriptsHaveTables =
    (version : ℕ) (task : Task) (entries : List Entry) → IsFit task → IsLegal version task entries
    → IsTable version task (own_rows entries) × AgreesWith version task (reply_in (own_rows entries)) entries
