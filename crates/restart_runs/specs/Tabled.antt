-- What a run comes to whose generators are started again where they fail, and answer by a table.
use Rattle.std.specs.Prelude.{◌≡◌, ℕ, List, ◌++◌, Option, Some}
use Rattle.io_world.specs.Talks.{Event, silence, spelled}
use Rattle.turn_laws.specs.Lazy.{IsFewDue, IsLazy, IsLazyEnd}
use Rattle.turn_laws.specs.PlainLaws.{IsSettledOutcome}
use Rattle.turn_laws.specs.Own.{own_rows}
use Rattle.restart_runs.specs.Again.{LogRanAgain}
use Rattle.table_runs.specs.Asking.{SpeaksBy}
use Rattle.task_model.specs.declared.task.Task.{Task}
use Rattle.transcript_model.specs.Legal.{HasNoneOpen, IsLegal}
use Rattle.transcript_model.specs.Outcomes.{IsTrueOutcome, MayStand}
use Rattle.transcript_model.specs.Plain.{IsAsPlain}
use Rattle.transcript_model.specs.Rounds.{limits_of}
use Rattle.transcript_model.specs.Tables.{Answers, IsBounded, reply_in}
use Rattle.transcript_model.specs.Turns.{AreTurnsOf, Stage}
use Rattle.transcript_model.specs.declared.entry.Entry.{Entry}
use Rattle.transcript_model.specs.declared.head.Head.{Head}
use Rattle.transcript_model.specs.declared.head.Mode.TheVariants.{Incremental}
use Rattle.transcript_model.specs.declared.outcome.LimitKind.TheVariants.{States}
use Rattle.transcript_model.specs.declared.outcome.Outcome.{Outcome}
use Rattle.transcript_model.specs.declared.outcome.Outcome.TheVariants as outcome

-- At each moment each child spoke by the answers since its last start.
abbrev pub SpeakAgain : ℕ → Task → Answers → List Event → List Event → Type 0
SpeakAgain version task answers past events =
    (child : ℕ) (front later : List Event) → events ≡ front ++ later
    → SpeaksBy version task answers (spelled child silence (past ++ front))

-- The log is told, and each child spoke so in each of its lives.
abbrev pub AnsweredAgain : ℕ → Task → Answers → Option (List Event) → Option (List Event) → Type 0
AnsweredAgain version task answers old new =
    (past : List Event) × (events : List Event) × (old ≡ Some past) × (new ≡ Some (past ++ events))
    × SpeakAgain version task answers past events

-- A run of a head, with its outcome, and the log of its host before and after: a legal transcript of whole turns of the
-- head's mode, or one after a batch that was cut, each of which began where it was needed; no request is open; the
-- outcome may stand there and is true, and a limit stands only where a further turn is needed; these were its calls.
pub record IsAgainRun (task : Task) (head : Head) (entries : List Entry) (stage : Stage) (o : Outcome)
    (old new : Option (List Event)) : Type 0 where
  pub legal : IsLegal head.version task entries
  pub turns : AreTurnsOf head.mode (limits_of head) task entries stage
  pub lazy : IsLazy (limits_of head) task entries
  pub stands : MayStand stage o
  pub claim : IsTrueOutcome (limits_of head) task entries o
  pub end : IsLazyEnd (limits_of head) task entries stage o
  pub few : IsFewDue task entries stage o
  pub closed : HasNoneOpen entries
  pub calls : LogRanAgain task head entries old new

-- What such a run comes to. Where each child speaks by some answers in each of its lives, as those of a table, the run
-- is in incremental mode as the plain run over them, unless it ends with the limit of states; and in any mode it ends
-- with a plan or with none, where every transcript that agrees with them stays within the head's limits. Whatever
-- children say, in incremental mode it is as the plain run over the table of its own answers, with the same exception.
pub record IsTabledAgain (task : Task) (head : Head) (entries : List Entry) (old new : Option (List Event))
    (o : Outcome) : Type 0 where
  pub plain : (answers : Answers) → AnsweredAgain head.version task answers old new → head.mode ≡ Incremental
      → ¬ (o ≡ outcome.Limit States) → IsAsPlain task answers head.calls entries o
  pub settled : (answers : Answers) → AnsweredAgain head.version task answers old new
      → IsBounded head.version task answers head.calls head.states → IsSettledOutcome o
  pub own : head.mode ≡ Incremental → ¬ (o ≡ outcome.Limit States)
      → IsAsPlain task (reply_in (own_rows entries)) head.calls entries o

-- The log of the host has the calls of a run, whose children may have several lives, and the run comes to what they say
-- in them.
pub record IsRanAgain (task : Task) (head : Head) (entries : List Entry) (old new : Option (List Event)) (o : Outcome)
    : Type 0 where
  pub calls : LogRanAgain task head entries old new
  pub tabled : IsTabledAgain task head entries old new o
