-- The asks of instances.
use Rattle.std.specs.Prelude.{List, map}
use Rattle.task_model.specs.Streams.{Note, yields_of}
use Rattle.task_model.specs.declared.stream.Instance.{Instance}
use Rattle.instance_queue.specs.declared.due.Due.{Due}

abbrev pub due_of : List Note → Instance → Due
due_of notes instance = record { instance = instance; turn = yields_of notes instance }

-- the asks of these instances, with their turns
abbrev pub dues_of_instances : List Note → List Instance → List Due
dues_of_instances notes = map (due_of notes)
