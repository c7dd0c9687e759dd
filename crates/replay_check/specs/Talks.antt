-- Whether a request is the one that is due.
use Rattle.std.specs.Prelude.{ℕ, List, map, Bool, ◌&&◌, ◌==◌}
use Rattle.gen_lines.specs.Request.{stream_name}
use Rattle.std.specs.Cmp.Lexicographic.{pointwise}
use Rattle.task_model.specs.Known.{same_numbers}
use Rattle.task_model.specs.Streams.{Note, name_at, yields_of}
use Rattle.task_model.specs.declared.stream.Instance.{Instance}
use Rattle.task_model.specs.declared.task.Task.{Task}
use Rattle.transcript_model.specs.declared.entry.Call.{Call}

-- the request of these fields is the one of this number, of this instance
abbrev pub is_same_request : Task → List (List ℕ) → List Note → ℕ → Instance → ℕ → ℕ → Call → Bool
is_same_request task names notes number i shown turn call =
    (shown == number) && (turn == yields_of notes i) && same_numbers call.name (stream_name task i.stream)
    && pointwise same_numbers call.args (map (name_at names) i.inputs)
