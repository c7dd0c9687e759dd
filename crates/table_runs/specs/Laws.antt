-- Laws of runs over tables. Each is the contract of a public function of `laws.rt`, and so is proved.
use Rattle.std.specs.Prelude.{◌≡◌, ℕ, ◌≤◌, List, [], ◌∷◌, ◌++◌, All, Option, Some, true, count_by, slice_get, take}
use Rattle.gen_lines.specs.Laws.{is_printed}
use Rattle.gen_lines.specs.Lines.{lines_of}
use Rattle.io_world.specs.Talks.{Talk}
use Rattle.pools.specs.Pools.{AreFitPools, Workers}
use Rattle.round_run.specs.Dialogue.{Dialogue, Request, bytes_to, count_to, requests_of, text_of_request, workers_in}
use Rattle.table_runs.specs.Asking.{AnsweredBy, AskedTell, GoToPools, asked_by, asking_by}
use Rattle.table_runs.specs.Tabled.{IsTabled, IsTalkedRun}
use Rattle.task_model.specs.Fit.{IsFit}
use Rattle.task_model.specs.declared.task.Task.{Task}
use Rattle.transcript_model.specs.Legal.{HasNoneOpen, IsLegal, asks_of, is_answer}
use Rattle.transcript_model.specs.Plain.{SaysSame, end_of}
use Rattle.transcript_model.specs.Tables.{AgreesWith, Answers}
use Rattle.transcript_model.specs.Transcript.{known_of, names_of}
use Rattle.transcript_model.specs.Rounds.{limits_of}
use Rattle.transcript_model.specs.Turns.{AreTurnsOf, Stage, inside}
use Rattle.transcript_model.specs.declared.entry.Entry.{Entry}
use Rattle.transcript_model.specs.declared.head.Head.{Head}
use Rattle.transcript_model.specs.declared.head.Mode.TheVariants.{Incremental}
use Rattle.transcript_model.specs.declared.limits.TheConstants.{MOST_CALLS}
use Rattle.transcript_model.specs.declared.outcome.LimitKind.TheVariants.{States}
use Rattle.transcript_model.specs.declared.outcome.Outcome.{Outcome}
use Rattle.transcript_model.specs.declared.outcome.Outcome.TheVariants as outcome

-- ---- legal transcripts

-- The names of a legal transcript are not empty, and all their bytes are from ! to ~.
abbrev pub NamesArePrinted : Type 0
NamesArePrinted =
    (version : ℕ) (task : Task) (entries : List Entry) → IsFit task → IsLegal version task entries
    → All (λ name. is_printed name ≡ true) (names_of task entries)

-- A legal transcript has at most as many answers as requests.
abbrev pub AnswersAreFew : Type 0
AnswersAreFew =
    (version : ℕ) (task : Task) (entries : List Entry) → IsLegal version task entries
    → count_by is_answer entries ≤ asks_of entries

-- The line is the request's, and it asks what the request asks.
pub record IsLineOf (line : List ℕ) (r : Request) : Type 0 where
  pub text : line ++ 10 ∷ [] ≡ text_of_request r
  pub asks : asked_by line ≡ Some (asking_by r)

-- Among the lines that are written to a child for a legal transcript, each request that goes to it has its own, at its
-- place among those that do.
abbrev pub RequestsHaveLines : Type 0
RequestsHaveLines =
    (version : ℕ) (task : Task) (pools : List Workers) (entries : List Entry) (k : ℕ) (r : Request) → IsFit task
    → IsLegal version task entries → asks_of entries ≤ MOST_CALLS
    → slice_get (requests_of task pools entries) k ≡ Some r
    → (line : List ℕ) × IsLineOf line r
    × (slice_get (lines_of (bytes_to r.child (requests_of task pools entries)))
    (count_to r.child (take k (requests_of task pools entries))) ≡ Some line)

-- Each request of a legal list of whole turns, of any mode, the last perhaps cut by the calls, goes to a child of the
-- pools, where these serve the streams of the task.
abbrev pub RequestsGoToPools : Type 0
RequestsGoToPools =
    (task : Task) (head : Head) (entries : List Entry) (stage : Stage) → IsFit task → AreFitPools task (workers_in head)
    → IsLegal head.version task entries → AreTurnsOf head.mode (limits_of head) task entries stage → ¬ (stage ≡ inside)
    → GoToPools task (workers_in head) entries

-- ---- dialogues

-- Where each child that is asked speaks by some answers, as those of a table, the answers of the transcript are these,
-- in any mode.
abbrev pub DialoguesAgree : Type 0
DialoguesAgree =
    (version : ℕ) (task : Task) (pools : List Workers) (answers : Answers) (entries : List Entry)
    (spoken : ℕ → Option Talk) → IsFit task → IsLegal version task entries → asks_of entries ≤ MOST_CALLS
    → GoToPools task pools entries → Dialogue task version pools entries spoken
    → AnsweredBy version task pools answers entries spoken → AgreesWith version task answers entries

-- Where no request is open, and each child that is asked tells what was said with it, they speak by the answers of each
-- table with which the transcript agrees, as the table of its own answers.
abbrev pub AgreeingDialoguesSpeak : Type 0
AgreeingDialoguesSpeak =
    (version : ℕ) (task : Task) (pools : List Workers) (answers : Answers) (entries : List Entry)
    (spoken : ℕ → Option Talk) → IsFit task → AgreesWith version task answers entries → asks_of entries ≤ MOST_CALLS
    → HasNoneOpen entries → GoToPools task pools entries → Dialogue task version pools entries spoken
    → AskedTell task pools entries spoken → AnsweredBy version task pools answers entries spoken

-- ---- runs

-- A run is as the plain run over the answers by which its children speak, and ends with a plan or with none where all
-- transcripts that agree with them stay within its limits.
abbrev pub TalkedRunsAreTabled : Type 0
TalkedRunsAreTabled =
    (task : Task) (head : Head) (entries : List Entry) (stage : Stage) (o : Outcome) (spoken : ℕ → Option Talk)
    → IsFit task → head.calls ≤ MOST_CALLS → IsTalkedRun task head entries stage o spoken
    → IsTabled task head entries spoken o

-- Two runs of one task with the same limit of calls, whose children speak by the same answers, say the same, know the
-- same in the end and end in the same way, whatever their pools, their workers and the moments at which lines came,
-- unless one of them ends with the limit of states.
abbrev pub WorkersDoNotMatter : Type 0
WorkersDoNotMatter =
    (task : Task) (head other : Head) (answers : Answers) (xs ys : List Entry) (spoken told : ℕ → Option Talk)
    (o p : Outcome) → head.mode ≡ Incremental → other.mode ≡ Incremental → head.calls ≡ other.calls
    → IsTabled task head xs spoken o → IsTabled task other ys told p
    → AnsweredBy head.version task (workers_in head) answers xs spoken
    → AnsweredBy other.version task (workers_in other) answers ys told
    → ¬ (o ≡ outcome.Limit States) → ¬ (p ≡ outcome.Limit States)
    → SaysSame xs ys × (known_of task xs ≡ known_of task ys) × (end_of o ≡ end_of p)
