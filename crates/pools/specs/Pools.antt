-- Pools of workers: which of them answers for a stream, which of its children is asked, and how many asks make a round.
use Rattle.std.specs.Prelude.{◌≡◌, ℕ, ◌+◌, ◌≤◌, ◌<◌, ◌==◌, List, [], ◌∷◌, length, map, take, drop, count_by, All, Bool, true, Option, None, Some, slice_get, if◌then◌else◌}
use Rattle.std.specs.List.{list_any}
use Rattle.instance_queue.specs.declared.due.Due.{Due}
use Rattle.io_world.specs.declared.host.TheConstants.{CHILDREN}
use Rattle.task_model.specs.declared.stream.Instance.{Instance}
use Rattle.task_model.specs.declared.task.Task.{Task}
use Rattle.transcript_model.specs.Rounds.{IsFull, Share, fits}
use Rattle.transcript_model.specs.declared.head.Pool as pools

-- What is kept of a pool: the number of its first child, how many workers it has, which have the numbers from that on,
-- and its streams, by their places in the task.
pub record Workers : Type 0 where
  pub first : ℕ
  pub workers : ℕ
  pub streams : List ℕ

-- what is kept of a pool of a head
abbrev pub workers_of : pools.Pool → Workers
workers_of pool = record { first = pool.first; workers = pool.workers; streams = pool.streams }

-- so many workers for these streams
abbrev pub share_of_workers : Workers → Share
share_of_workers pool = record { workers = pool.workers; streams = pool.streams }

abbrev pub shares_of : List Workers → List Share
shares_of = map share_of_workers

-- ---- which child is asked

-- whether the pool answers for the stream
abbrev pub has_stream : Workers → ℕ → Bool
has_stream pool stream = list_any (λ s. s == stream) pool.streams

-- the pool that answers for the stream: the first, if there are several
abbrev pub server : List Workers → ℕ → Option Workers
server [] stream = None
server (pool ∷ pools) stream = if has_stream pool stream then Some pool else server pools stream

-- the streams of these asks
abbrev pub asked_streams : List Due → List ℕ
asked_streams = map (λ (d : Due). d.instance.stream)

-- the child for an ask of this stream, after asks of these in the same round
abbrev pub child_for : List Workers → List ℕ → ℕ → ℕ
child_for pools before stream = of (server pools stream)
  where
    of : Option Workers → ℕ
    of (Some pool) = pool.first + count_by (has_stream pool) before
    of None = 0

-- a child of a host has this number
abbrev pub IsChild : ℕ → Type 0
IsChild child = child < CHILDREN

-- the pool has this child
pub record HasChild (pool : Workers) (child : ℕ) : Type 0 where
  pub from : pool.first ≤ child
  pub to : child < pool.first + pool.workers

-- Each stream of the task is served by one pool, and pools have children of their own, one at least, that a host has.
pub record AreFitPools (task : Task) (all : List Workers) : Type 0 where
  pub served : (stream : ℕ) → stream < length task.streams
      → (pool : Workers) × (server all stream ≡ Some pool)
  pub apart : (j k child : ℕ) (p q : Workers) → slice_get all j ≡ Some p → slice_get all k ≡ Some q
      → HasChild p child
      → HasChild q child → j ≡ k
  pub once : (j k stream : ℕ) (p q : Workers) → slice_get all j ≡ Some p → slice_get all k ≡ Some q
      → has_stream p stream ≡ true → has_stream q stream ≡ true → j ≡ k
  pub some : (k : ℕ) (p : Workers) → slice_get all k ≡ Some p → 1 ≤ p.workers
  pub few : (k : ℕ) (p : Workers) → slice_get all k ≡ Some p → p.first + p.workers ≤ CHILDREN

-- ---- how many asks make a round

-- each pool has a worker
abbrev pub HaveWorkers : List Share → Type 0
HaveWorkers pools = All (λ (p : Share). 1 ≤ p.workers) pools

-- So many of the instances fit the workers, and with the next one they wouldn't. There is one at least, where each pool
-- has a worker.
pub record IsLongestFront (pools : List Share) (list : List Instance) (count : ℕ) : Type 0 where
  pub within : count ≤ length list
  pub fit : fits pools (take count list) ≡ true
  pub full : IsFull pools (take count list) (drop count list)
  pub some : HaveWorkers pools → 0 < length list → 0 < count
