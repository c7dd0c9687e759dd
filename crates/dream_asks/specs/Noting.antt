-- What the answers to a dream's requests say of it.
use Rattle.std.specs.Prelude.{◌≡◌, ℕ, ◌+◌, ◌≤◌, List, [], ◌∷◌, ◌++◌, map, length, take, Bool, false, Option, None, nat_le}
use Rattle.std.specs.List.{find}
use Rattle.std.specs.Option.{option_and_then, option_or}
use Rattle.dream_asks.specs.Next.{asked_instances}
use Rattle.dream_asks.specs.Progress.{IsProgress, Progress, got, numbered}
use Rattle.dream_asks.specs.declared.asks.DreamAsk.{DreamAsk}
use Rattle.task_model.specs.Fit.{IsFit}
use Rattle.task_model.specs.declared.task.Task.{Task}
use Rattle.transcript_model.specs.Dreaming.{Sent, paired}
use Rattle.transcript_model.specs.Legal.{HasNoneOpen, IsLegal, asks_of, is_answer_to}
use Rattle.transcript_model.specs.Names.{generated, places_of}
use Rattle.transcript_model.specs.Transcript.{names_of}
use Rattle.transcript_model.specs.declared.entry.Entry.{Entry}
use Rattle.transcript_model.specs.declared.entry.Entry.TheVariants as entry

-- ---- one answer

-- the objects of the first tuple of a yield, of which so many are wanted
abbrev pub tuple_of : List (List ℕ) → ℕ → Entry → Option (List ℕ)
tuple_of names width (entry.Got number tuples values) = places_of names (map generated (take width values))
tuple_of names width e = None

-- the objects that came for an ask, where it has this number and its answer is one of these entries
abbrev pub objects_for : List (List ℕ) → List Entry → ℕ → ℕ → Option (List ℕ)
objects_for names behind number width =
    option_and_then (tuple_of names width) (find (is_answer_to number) behind)

-- the object that came for one of these placeholders by the answer to the request of this number
abbrev pub came_by : List (List ℕ) → List Entry → ℕ → List ℕ → ℕ → Option ℕ
came_by names behind number outputs object =
    option_and_then (λ objects. paired outputs objects object) (objects_for names behind number (length outputs))

-- the object that came for a placeholder by the first of these asks, which have numbers from this one on
abbrev pub came_for : List (List ℕ) → List Entry → ℕ → List DreamAsk → ℕ → Option ℕ
came_for names behind number [] object = None
came_for names behind number (a ∷ asks) object =
    option_or (came_by names behind number a.outputs object) (came_for names behind (number + 1) asks object)

-- the asks were made, and this came for them
pub record HasNoted (names : List (List ℕ)) (behind : List Entry) (first : ℕ) (asks : List DreamAsk)
    (old new : Progress) : Type 0 where
  pub real : new.real ≡ old.real
  pub taken : new.taken ≡ old.taken ++ asked_instances asks
  pub values : (object : ℕ) → got new object ≡ option_or (got old object) (came_for names behind first asks object)

-- ---- answers that come one after another

-- whether an entry answers the request of this number or of a later one
abbrev pub is_answer_from : ℕ → Entry → Bool
is_answer_from number (entry.Got n tuples values) = nat_le number n
is_answer_from number (entry.Value n value) = nat_le number n
is_answer_from number (entry.End n) = nat_le number n
is_answer_from number e = false

-- the requests from this number on have the same first answers in both
abbrev pub HaveSameAnswers : ℕ → List Entry → List Entry → Type 0
HaveSameAnswers number entries others =
    (n : ℕ) → number ≤ n → find (is_answer_to n) entries ≡ find (is_answer_to n) others

-- ---- transcripts

-- Nothing is open in a transcript, and behind it stand so many requests, the first of which has this number. By the end
-- of it objects have these names.
pub record WereMade (version : ℕ) (task : Task) (before behind : List Entry) (table : List (List ℕ))
    (number count : ℕ) : Type 0 where
  pub fit : IsFit task
  pub legal : IsLegal version task (before ++ behind)
  pub closed : HasNoneOpen before
  pub first : number ≡ asks_of before + 1
  pub many : asks_of (before ++ behind) ≡ asks_of before + count
  pub names : table ≡ names_of task (before ++ behind)

-- Where the asks were made behind a transcript, which has the dream's requests, the longer one has these too.
abbrev pub NotesAnswers : List (List ℕ) → List Entry → ℕ → List DreamAsk → Progress → Progress → Type 0
NotesAnswers names behind first asks old new =
    (version : ℕ) (task : Task) (before : List Entry) (sent : List Sent)
    → WereMade version task before behind names first (length asks) → IsProgress task before old sent
    → IsProgress task (before ++ behind) new (sent ++ numbered first asks)
