-- Tasks whose streams the grid serves.
use Rattle.std.specs.Prelude.{◌≡◌, ℕ, List, codes, length, None, Some, slice_get}
use Rattle.task_model.specs.declared.stream.Stream.{Stream}
use Rattle.task_model.specs.declared.task.Task.{Task}
use Rattle.transcript_model.specs.Names.{stream_named}

-- The task has a stream of this name with so many outputs, and that is no cost stream.
pub record HasStream (task : Task) (name : List ℕ) (outputs : ℕ) : Type 0 where
  pub place : ℕ
  pub stream : Stream
  pub named : stream_named task name ≡ Some place
  pub at : slice_get task.streams place ≡ Some stream
  pub plain : stream.worth ≡ None
  pub width : length stream.outputs ≡ outputs

-- It has the four streams of the grid: a pose, a side and a cell are one value, and `clear` is a test.
pub record HasGridStreams (task : Task) : Type 0 where
  pub place : HasStream task (codes "place") 1
  pub grasp : HasStream task (codes "grasp") 1
  pub reach : HasStream task (codes "reach") 1
  pub clear : HasStream task (codes "clear") 0
