-- Laws of accepted maps.
use Rattle.std.specs.Prelude.{◌≡◌, ℕ, ◌+◌, ◌<◌, ◌≤◌, List, length, map, All, Contains, Some, slice_get}
use Rattle.serde_json.specs.Data.{Data}
use Rattle.task_model.specs.declared.task.Task.{Task}
use Rattle.transcript_model.specs.declared.head.Pool.{Pool}
use Rattle.stream_map.specs.Form.{map_in_data, words_form}
use Rattle.stream_map.specs.Children.{PlainPool, plain, with_text}
use Rattle.stream_map.specs.Accepted.{Accepted}
use Rattle.io_world.specs.declared.host.TheConstants.{CHILDREN}

-- the pool has this child
pub record PoolHasChild (pool : PlainPool) (child : ℕ) : Type 0 where
  pub from : pool.first ≤ child
  pub to : child < pool.first + pool.workers

-- Each stream of the task stands at one place of one pool. Pools have children of their own, one at least, with numbers
-- up to 16, and words that start them.
pub record AreWhole (task : Task) (pools : List PlainPool) : Type 0 where
  pub served : (stream : ℕ) → stream < length task.streams
      → (k : ℕ) × (p : PlainPool) × (slice_get pools k ≡ Some p) × Contains p.streams stream
  pub once : (j k a b stream : ℕ) (p q : PlainPool) → slice_get pools j ≡ Some p
      → slice_get pools k ≡ Some q
      → slice_get p.streams a ≡ Some stream → slice_get q.streams b ≡ Some stream → (j ≡ k) × (a ≡ b)
  pub known : All (λ (p : PlainPool). All (λ stream. stream < length task.streams) p.streams) pools
  pub apart : (j k child : ℕ) (p q : PlainPool) → slice_get pools j ≡ Some p
      → slice_get pools k ≡ Some q → PoolHasChild p child → PoolHasChild q child → j ≡ k
  pub some : All (λ (p : PlainPool). 1 ≤ p.workers) pools
  pub low : All (λ (p : PlainPool). p.first + p.workers ≤ CHILDREN) pools
  pub started : All (λ (p : PlainPool). 1 ≤ length p.words) pools

abbrev pub AcceptedMapsAreWhole : Type 0
AcceptedMapsAreWhole =
    (task : Task) (d : Data) (pools : List Pool) → Accepted task (map_in_data d) pools
    → AreWhole task (map plain pools)

abbrev pub AcceptedWordsAreWhole : Type 0
AcceptedWordsAreWhole =
    (task : Task) (words : List (List ℕ)) (workers : ℕ) (pools : List Pool)
    → Accepted task (words_form task words workers) pools → AreWhole task (map plain pools)

-- the file's text changes nothing of that
abbrev pub TextsKeepPoolsWhole : Type 0
TextsKeepPoolsWhole =
    (task : Task) (text : List ℕ) (pools : List PlainPool) → AreWhole task pools
    → AreWhole task (with_text text pools)
