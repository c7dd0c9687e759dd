-- Tables of answers, and the transcripts that agree with them.
use Rattle.std.specs.Prelude.{◌≡◌, ℕ, ◌≤◌, ◌==◌, List, [], ◌∷◌, ◌++◌, length, Bool, true, false, ◌&&◌, Some, slice_get, is_none, All, Contains, if◌then◌else◌}
use Rattle.std.specs.Cmp.Lexicographic.{pointwise}
use Rattle.gen_lines.specs.Reply.{Reply, IsRight, yields, number, ends, bad}
use Rattle.task_model.specs.Known.{same_numbers}
use Rattle.task_model.specs.Plans.{IsReached, MoreThan}
use Rattle.task_model.specs.declared.limits.TheConstants.{LARGEST_NUMBER}
use Rattle.task_model.specs.declared.stream.Stream.{Stream}
use Rattle.task_model.specs.declared.task.Task.{Task}
use Rattle.transcript_model.specs.Legal.{IsLegal, asks_of, has_several, is_answer_to}
use Rattle.transcript_model.specs.Names.{stream_named}
use Rattle.transcript_model.specs.Transcript.{known_of}
use Rattle.transcript_model.specs.declared.entry.Call.{Call}
use Rattle.transcript_model.specs.declared.entry.Entry.{Entry}
use Rattle.transcript_model.specs.declared.entry.Entry.TheVariants as entry

-- ---- tables

-- what is answered to a call after so many tuples
abbrev pub Answers : Type 0
Answers = Call → ℕ → Reply

-- the answer to a call, where so many tuples were given before
pub record TableRow : Type 0 where
  pub call : Call
  pub turn : ℕ
  pub reply : Reply

abbrev pub same_call : Call → Call → Bool
same_call a b = same_numbers a.name b.name && pointwise same_numbers a.args b.args

-- the first row's answer; without a row it is that nothing more comes
abbrev pub reply_in : List TableRow → Answers
reply_in [] call turn = ends
reply_in (row ∷ rows) call turn =
    if same_call row.call call && (row.turn == turn) then row.reply else reply_in rows call turn

-- A request to the stream may be answered so: tuples of the right width, a value of at most 1,000,000 from a cost
-- stream, or that nothing more comes.
abbrev pub MayAnswer : ℕ → Stream → Reply → Type 0
MayAnswer version stream (yields tuples values) =
    (is_none stream.worth ≡ true) × IsRight (length stream.outputs) (has_several version) tuples values
MayAnswer version stream (number value) = (is_none stream.worth ≡ false) × (value ≤ LARGEST_NUMBER)
MayAnswer version stream ends = Unit {0}
MayAnswer version stream (bad why) = ⊥

-- The row is of a stream of the task, and its answer is one that the stream may give.
pub record IsTableRow (version : ℕ) (task : Task) (row : TableRow) : Type 0 where
  pub place : ℕ
  pub stream : Stream
  pub named : stream_named task row.call.name ≡ Some place
  pub at : slice_get task.streams place ≡ Some stream
  pub may : MayAnswer version stream row.reply

-- a finite table, each row of a stream of the task and well formed
abbrev pub IsTable : ℕ → Task → List TableRow → Type 0
IsTable version task rows = All (IsTableRow version task) rows

-- ---- entries by a table

abbrev pub entry_of_reply : ℕ → Reply → List Entry
entry_of_reply n (yields tuples values) = entry.Got n tuples values ∷ []
entry_of_reply n (number value) = entry.Value n value ∷ []
entry_of_reply n ends = entry.End n ∷ []
entry_of_reply n (bad why) = []

-- the answers to the requests among these entries, in order
abbrev pub answers_to : Answers → List Entry → List Entry
answers_to answers [] = []
answers_to answers (e ∷ entries) = answer e ++ answers_to answers entries
  where
    answer : Entry → List Entry
    answer (entry.Ask n turn call) = entry_of_reply n (answers call turn)
    answer e = []

-- each answer is the one that is due to the request of its number
abbrev pub AnswersAgree : Answers → List Entry → Type 0
AnswersAgree answers entries =
    (n turn : ℕ) (call : Call) (e : Entry) → Contains entries (entry.Ask n turn call) → Contains entries e
    → is_answer_to n e ≡ true → entry_of_reply n (answers call turn) ≡ e ∷ []

-- The transcript is legal, and its answers are those of the table.
pub record AgreesWith (version : ℕ) (task : Task) (answers : Answers) (entries : List Entry) : Type 0 where
  pub legal : IsLegal version task entries
  pub by : AnswersAgree answers entries

-- Every transcript that agrees has at most so many requests, and over what it knows at most so many states are reached.
abbrev pub IsBounded : ℕ → Task → Answers → (calls states : ℕ) → Type 0
IsBounded version task answers calls states =
    (entries : List Entry) → AgreesWith version task answers entries
    → (asks_of entries ≤ calls) × ¬ (MoreThan states (IsReached task (known_of task entries)))
