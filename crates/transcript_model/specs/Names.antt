-- The names of objects, an object being its place in a table of names.
use Rattle.std.specs.Prelude.{ℕ, List, [], ◌∷◌, map, Option, Some}
use Rattle.std.specs.List.{position}
use Rattle.std.specs.Option.{option_map, option_and_then}
use Rattle.gen_lines.specs.Request.{stream_name}
use Rattle.task_model.specs.Known.{same_numbers}
use Rattle.task_model.specs.Streams.{name_at}
use Rattle.task_model.specs.declared.stream.Instance.{Instance}
use Rattle.task_model.specs.declared.stream.Stream.{Stream}
use Rattle.task_model.specs.declared.task.Task.{Task}
use Rattle.transcript_model.specs.declared.entry.Call.{Call}

-- the name of the object that a generator's value stands for: `#` and the value
abbrev pub generated : List ℕ → List ℕ
generated value = 35 ∷ value

-- the object with this name
abbrev pub place_of : List (List ℕ) → List ℕ → Option ℕ
place_of names name = position (same_numbers name) names

-- the objects with these names, where each name is in the table
abbrev pub places_of : List (List ℕ) → List (List ℕ) → Option (List ℕ)
places_of names [] = Some []
places_of names (name ∷ more) =
    option_and_then (λ object. option_map (λ objects. object ∷ objects) (places_of names more)) (place_of names name)

-- the stream of the task with this name
abbrev pub stream_named : Task → List ℕ → Option ℕ
stream_named task name = position (λ (s : Stream). same_numbers name s.name) task.streams

-- the instance that a call stands for, where its stream and its objects are known
abbrev pub instance_of : Task → List (List ℕ) → Call → Option Instance
instance_of task names call =
    option_and_then
    (λ stream. option_map (λ inputs. record { stream = stream; inputs = inputs }) (places_of names call.args))
    (stream_named task call.name)

-- how an instance is shown
abbrev pub call_of_instance : Task → List (List ℕ) → Instance → Call
call_of_instance task names i =
    record { name = stream_name task i.stream; args = map (name_at names) i.inputs }
