-- Entries that may be supposed: their objects have names.
use Rattle.std.specs.Prelude.{◌≡◌, ℕ, ◌≤◌, ◌++◌, List, length, All, Some, slice_get}
use Rattle.task_model.specs.Dreams.{SupposedEntry, entry_names}
use Rattle.task_model.specs.Fit.{IsFit}
use Rattle.task_model.specs.Known.{Known, IsIn}
use Rattle.task_model.specs.declared.limits.TheConstants.{MOST_SUPPOSED}
use Rattle.task_model.specs.declared.stream.Stream.{Stream}
use Rattle.task_model.specs.declared.task.Task.{Task}
use Rattle.optimistic_set.specs.Dreamable.{AreReal}

-- What entries may be supposed over: the task is fit, the declared objects have names, and no name begins with `@`.
pub record IsBase (task : Task) (known : Known) : Type 0 where
  pub fit : IsFit task
  pub declared : length task.problem.objects ≤ length known.names
  pub real : AreReal known.names

-- The entry is one of a stream of the task, has as many inputs and outputs as that, and its objects have names.
pub record IsPlainEntry (task : Task) (names : List (List ℕ)) (e : SupposedEntry) : Type 0 where
  pub stream : Stream
  pub named : slice_get task.streams e.instance.stream ≡ Some stream
  pub inputs : length e.instance.inputs ≡ length stream.inputs
  pub outputs : length e.outputs ≡ length stream.outputs
  pub given : All (IsIn names) e.instance.inputs
  pub fresh : All (IsIn names) e.outputs

-- At most 20,000 entries of streams of the task, over what is known without them; with the placeholders of them all
-- their objects have names.
pub record ArePlainEntries (task : Task) (known : Known) (list : List SupposedEntry) : Type 0 where
  pub base : IsBase task known
  pub few : length list ≤ MOST_SUPPOSED
  pub each : (k : ℕ) (e : SupposedEntry) → slice_get list k ≡ Some e
      → IsPlainEntry task (known.names ++ entry_names 1 list) e
