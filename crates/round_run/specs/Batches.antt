-- What a head must be so that a task can be run, which children run, and how a batch ends.
use Rattle.std.specs.Prelude.{◌≡◌, ℕ, ◌+◌, ◌<◌, ◌≤◌, List, length, All, Bool, true, false, Some, slice_get}
use Rattle.pools.specs.Pools.{HasChild, Workers}
use Rattle.session_core.specs.Session.{IsFitHead}
use Rattle.task_model.specs.Streams.{IsDue}
use Rattle.task_model.specs.declared.limits.TheConstants.{MOST_STATES}
use Rattle.task_model.specs.declared.stream.Instance.{Instance}
use Rattle.task_model.specs.declared.task.Task.{Task}
use Rattle.transcript_model.specs.Transcript.{known_of, notes_of}
use Rattle.transcript_model.specs.declared.entry.Entry.{Entry}
use Rattle.transcript_model.specs.declared.head.Head.{Head}
use Rattle.transcript_model.specs.declared.head.Pool.{Pool}
use Rattle.round_run.specs.declared.ending.Batch.{Batch}
use Rattle.round_run.specs.declared.ending.Batch.TheVariants.{Done, CallsSpent}

-- ---- what is asked for

-- the head's pools serve the task's streams, its limits are in their ranges, and each pool has words that start its
-- children
pub record IsRunnable (task : Task) (head : Head) : Type 0 where
  pub fit : IsFitHead task head
  pub words : All (λ (p : Pool). 0 < length p.argv) head.pools
  pub streams : All (λ (p : Pool). All (λ stream. stream < length task.streams) p.streams) head.pools
  pub some_states : 1 ≤ head.states
  pub few_states : head.states ≤ MOST_STATES

-- ---- children

-- all workers run
abbrev pub AllRun : List Workers → (ℕ → Bool) → Type 0
AllRun pools running =
    (k child : ℕ) (p : Workers) → slice_get pools k ≡ Some p → HasChild p child → running child ≡ true

-- Where nothing was asked no child runs, and else all workers do.
pub record AreStarted (pools : List Workers) (asks : ℕ) (running : ℕ → Bool) : Type 0 where
  pub none : asks ≡ 0 → (child : ℕ) → running child ≡ false
  pub all : 0 < asks → AllRun pools running

-- ---- how a batch ends

-- All was asked; or as many calls were made as the limit allows, and an instance that was to be asked is still due.
abbrev pub EndsBatch : Task → List Entry → (before after calls many : ℕ) → Batch → Type 0
EndsBatch task entries before after calls many Done = (after ≡ before + many) × (after ≤ calls)
EndsBatch task entries before after calls many CallsSpent =
    (after ≡ calls) × (calls < before + many)
    × ((i : Instance) × IsDue task (known_of task entries) (notes_of task entries) i)
