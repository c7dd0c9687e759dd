-- What is learnt from the answers of a transcript, one after another.
use Rattle.std.specs.Prelude.{◌≡◌, ℕ, ◌+◌, ◌*◌, ◌≤◌, ◌<◌, List, length, All, Some, slice_get, count_by}
use Rattle.task_model.specs.Fit.{IsFit}
use Rattle.task_model.specs.Known.{Known, IsIn}
use Rattle.task_model.specs.Streams.{Note}
use Rattle.task_model.specs.declared.limits.TheConstants.{LARGEST_COUNT, LARGEST_NUMBER}
use Rattle.task_model.specs.declared.stream.Instance.{Instance}
use Rattle.task_model.specs.declared.stream.Stream.{Stream}
use Rattle.task_model.specs.declared.task.Task.{Task}
use Rattle.transcript_model.specs.Legal.{IsLegal, asks_of, is_answer}
use Rattle.transcript_model.specs.Transcript.{Asked, asked}
use Rattle.transcript_model.specs.declared.entry.Entry.{Entry}
use Rattle.transcript_model.specs.declared.entry.Entry.TheVariants as entry
use Rattle.transcript_model.specs.declared.limits.TheConstants.{MOST_CALLS}
use Rattle.fact_store.specs.declared.facts.TheConstants.{MOST_NAMES}
use Rattle.learning.specs.declared.learn.Asked.{Asked as Lent}

-- the instance that is lent, with its stream
abbrev pub asked_by : Lent → Asked
asked_by a = record { stream = a.stream.now; instance = a.instance.now }

-- there is room for so many tuples of so many values, each as wide as the stream says
pub record IsRoomFor (known : Known) (notes : List Note) (stream : Stream) (tuples : ℕ)
    (values : List (List ℕ)) : Type 0 where
  pub count : length values ≡ tuples * length stream.outputs
  pub few_names : length known.names + length values < MOST_NAMES
  pub few_notes : length notes + tuples < LARGEST_COUNT

abbrev pub IsRoomAfter : Known → List Note → Stream → Entry → Type 0
IsRoomAfter known notes stream (entry.Got n tuples values) =
    IsRoomFor known notes stream tuples values
IsRoomAfter known notes stream (entry.Value n value) = value ≤ LARGEST_NUMBER
IsRoomAfter known notes stream e = Unit {0}

-- What was asked is an instance of a stream of the fit task, its inputs and the task's constants have names, and there
-- is room for what the entry certifies.
pub record MayLearn (task : Task) (known : Known) (notes : List Note) (a : Asked) (e : Entry) : Type 0 where
  pub fit : IsFit task
  pub streamed : slice_get task.streams a.instance.stream ≡ Some a.stream
  pub many : length a.instance.inputs ≡ length a.stream.inputs
  pub named : All (IsIn known.names) a.instance.inputs
  pub constants : length task.domain.constants ≤ length known.names
  pub room : IsRoomAfter known notes a.stream e

-- The number asks this instance.
pub record Asks (task : Task) (entries : List Entry) (number : ℕ) (i : Instance) : Type 0 where
  pub stream : Stream
  pub streamed : slice_get task.streams i.stream ≡ Some stream
  pub asks : asked task entries number ≡ Some (record { stream = stream; instance = i })

-- The transcript is legal, these instances were asked in it, and they are few.
pub record CanLearn (task : Task) (asked : List Instance) (entries : List Entry) : Type 0 where
  pub version : ℕ
  pub fit : IsFit task
  pub legal : IsLegal version task entries
  pub counted : length asked ≡ asks_of entries
  pub asks : (k : ℕ) (i : Instance) → slice_get asked k ≡ Some i → Asks task entries (k + 1) i
  pub answered : count_by is_answer entries ≤ asks_of entries
  pub few : length asked ≤ MOST_CALLS
