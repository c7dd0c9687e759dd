-- The requests that a generator is sent.
use Rattle.std.specs.Prelude.{ℕ, ◌<◌, List, [], ◌∷◌, ◌++◌, length, map, codes, All, Option, Some, None, slice_get}
use Rattle.std.specs.Fmt.{decimal}
use Rattle.std.specs.List.{join_with_byte}
use Rattle.task_model.specs.Streams.{name_at}
use Rattle.task_model.specs.declared.stream.Instance.{Instance}
use Rattle.task_model.specs.declared.stream.Stream.{Stream}
use Rattle.task_model.specs.declared.task.Task.{Task}

-- the name of a stream of the task
abbrev pub stream_name : Task → ℕ → List ℕ
stream_name task stream = of (slice_get task.streams stream)
  where
    of : Option Stream → List ℕ
    of (Some found) = found.name
    of None = []

-- `next`, how many tuples were given before, the name of the stream, and those of the inputs
abbrev pub request_line : ℕ → List ℕ → List (List ℕ) → List (List ℕ)
request_line turn name args = codes "next" ∷ decimal turn ∷ name ∷ args

-- the words of the request for an instance that has given so many tuples, by the names of this table
abbrev pub request_words : Task → List (List ℕ) → ℕ → Instance → List (List ℕ)
request_words task names number instance =
    request_line number (stream_name task instance.stream) (map (name_at names) instance.inputs)

-- The request for an instance: these words with a space between each two, and a line feed.
abbrev pub request_of : Task → List (List ℕ) → ℕ → Instance → List ℕ
request_of task names number instance =
    join_with_byte 32 (request_words task names number instance) ++ 10 ∷ []

-- the stream is one of the task's, and the inputs are in the table of names
pub record IsNamed (task : Task) (names : List (List ℕ)) (instance : Instance) : Type 0 where
  pub stream : instance.stream < length task.streams
  pub inputs : All (λ object. object < length names) instance.inputs
