-- Which transcripts are legal, and which are closed.
use Rattle.std.specs.Prelude.{◌≡◌, ℕ, ◌+◌, ◌≤◌, ◌==◌, List, take, length, count_by, Bool, true, false, not, ◌&&◌, Option, None, Some, slice_get, is_none}
use Rattle.std.specs.List.{list_any}
use Rattle.gen_lines.specs.Reply.{IsRight}
use Rattle.task_model.specs.Streams.{IsDue, NothingIsDue, yields_of}
use Rattle.task_model.specs.declared.limits.TheConstants.{LARGEST_NUMBER}
use Rattle.task_model.specs.declared.stream.Instance.{Instance}
use Rattle.task_model.specs.declared.task.Task.{Task}
use Rattle.transcript_model.specs.Names.{instance_of}
use Rattle.transcript_model.specs.Transcript.{Asked, asked, names_of, known_of, notes_of}
use Rattle.transcript_model.specs.declared.entry.Call.{Call}
use Rattle.transcript_model.specs.declared.entry.Entry.{Entry}
use Rattle.transcript_model.specs.declared.entry.Entry.TheVariants as entry

-- ---- open requests

abbrev pub is_ask : Entry → Bool
is_ask (entry.Ask number turn call) = true
is_ask e = false

-- the number of the request that an entry answers, if it is an answer
abbrev pub answered_number : Entry → Option ℕ
answered_number (entry.Got number tuples values) = Some number
answered_number (entry.Value number value) = Some number
answered_number (entry.End number) = Some number
answered_number e = None

abbrev pub is_answer : Entry → Bool
is_answer (entry.Got number tuples values) = true
is_answer (entry.Value number value) = true
is_answer (entry.End number) = true
is_answer e = false

-- a level begins here
abbrev pub is_level : Entry → Bool
is_level entry.Level = true
is_level e = false

-- neither a request nor an answer
abbrev pub is_mark : Entry → Bool
is_mark (entry.Ask number turn call) = false
is_mark (entry.Got number tuples values) = false
is_mark (entry.Value number value) = false
is_mark (entry.End number) = false
is_mark e = true

-- how many requests there are
abbrev pub asks_of : List Entry → ℕ
asks_of entries = count_by is_ask entries

abbrev pub is_ask_of : ℕ → Entry → Bool
is_ask_of n (entry.Ask number turn call) = n == number
is_ask_of n e = false

abbrev pub is_answer_to : ℕ → Entry → Bool
is_answer_to n (entry.Got number tuples values) = n == number
is_answer_to n (entry.Value number value) = n == number
is_answer_to n (entry.End number) = n == number
is_answer_to n e = false

-- the request of this number has no answer yet
abbrev pub is_open : List Entry → ℕ → Bool
is_open entries n = list_any (is_ask_of n) entries && not (list_any (is_answer_to n) entries)

-- no request waits for its answer
abbrev pub HasNoneOpen : List Entry → Type 0
HasNoneOpen entries = (n : ℕ) → is_open entries n ≡ false

-- no request of the instance waits for its answer
abbrev pub HasNoRequestOpen : Task → List Entry → Instance → Type 0
HasNoRequestOpen task entries i =
    (n : ℕ) (a : Asked) → asked task entries n ≡ Some a → a.instance ≡ i → is_open entries n ≡ false

-- ---- legal transcripts

-- A request has the next number, and its turn is how many tuples its instance has given. The instance is
-- due, and none of its requests is open.
pub record IsRightAsk (task : Task) (before : List Entry) (number turn : ℕ) (call : Call) : Type 0 where
  pub next : number ≡ asks_of before + 1
  pub instance : Instance
  pub named : instance_of task (names_of task before) call ≡ Some instance
  pub due : IsDue task (known_of task before) (notes_of task before) instance
  pub closed : HasNoRequestOpen task before instance
  pub turned : turn ≡ yields_of (notes_of task before) instance

-- from version 2 on a yield may have several tuples
abbrev pub has_several : ℕ → Bool
has_several version = not (version == 1)

-- A yield answers an open request to a stream that isn't a cost stream. It has as many tuples as the
-- version allows, and each has a value for each output.
pub record IsRightGot (version : ℕ) (task : Task) (before : List Entry) (number tuples : ℕ)
    (values : List (List ℕ)) : Type 0 where
  pub waiting : is_open before number ≡ true
  pub request : Asked
  pub of : asked task before number ≡ Some request
  pub no_cost : is_none request.stream.worth ≡ true
  pub right : IsRight (length request.stream.outputs) (has_several version) tuples values

-- A value, at most 1,000,000, answers an open request to a cost stream.
pub record IsRightValue (task : Task) (before : List Entry) (number value : ℕ) : Type 0 where
  pub waiting : is_open before number ≡ true
  pub request : Asked
  pub of : asked task before number ≡ Some request
  pub cost : is_none request.stream.worth ≡ false
  pub few : value ≤ LARGEST_NUMBER

-- the entry may follow these
abbrev pub MayFollow : ℕ → Task → List Entry → Entry → Type 0
MayFollow version task before (entry.Ask number turn call) = IsRightAsk task before number turn call
MayFollow version task before (entry.Got number tuples values) =
    IsRightGot version task before number tuples values
MayFollow version task before (entry.Value number value) = IsRightValue task before number value
MayFollow version task before (entry.End number) = is_open before number ≡ true
MayFollow version task before e = Unit {0}

-- Each entry may follow those before it.
abbrev pub IsLegal : ℕ → Task → List Entry → Type 0
IsLegal version task entries =
    (k : ℕ) (e : Entry) → slice_get entries k ≡ Some e → MayFollow version task (take k entries) e

-- ---- closed transcripts

-- It is legal, no request is open, and each instance that can be asked has finished.
pub record IsClosed (version : ℕ) (task : Task) (entries : List Entry) : Type 0 where
  pub legal : IsLegal version task entries
  pub none_open : HasNoneOpen entries
  pub finished : NothingIsDue task (known_of task entries) (notes_of task entries)
