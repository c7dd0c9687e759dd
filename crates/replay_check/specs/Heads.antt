-- What the head of a report binds its transcript to, and when it fits a task.
use Rattle.std.specs.Prelude.{◌≡◌, ℕ, ◌+◌, List, [], ◌∷◌, ◌++◌, map, take, sum_by, Bool, true, false, ◌&&◌, not, ◌==◌, nat_le, Option, Some, None, slice_get, unwrap_or}
use Rattle.std.specs.List.{list_any, list_all, filter_map, flat_map}
use Rattle.std.specs.Option.{option_map}
use Rattle.task_model.specs.Known.{same_numbers}
use Rattle.task_model.specs.declared.limits.TheConstants.{MOST_STATES}
use Rattle.task_model.specs.declared.stream.Stream.{Stream}
use Rattle.task_model.specs.declared.task.Task.{Task}
use Rattle.transcript_model.specs.Names.{stream_named}
use Rattle.transcript_model.specs.Rounds.{Share, Limits}
use Rattle.transcript_model.specs.declared.head.PoolLine.{PoolLine}
use Rattle.transcript_model.specs.declared.limits.TheConstants.{MOST_CALLS, MOST_DEPTH, WORKERS}
use Rattle.transcript_model.specs.declared.report.Report.{Report}
use Rattle.io_world.specs.declared.host.TheConstants.{CHILDREN}

-- ---- what a head says

-- the streams of a pool, by their places in the task
abbrev pub pool_line_streams : Task → PoolLine → List ℕ
pool_line_streams task pool = filter_map (stream_named task) pool.streams

abbrev pub share_in : Task → PoolLine → Share
share_in task pool = record { workers = pool.workers; streams = pool_line_streams task pool }

-- what the head binds the transcript to
abbrev pub reported_limits : Task → Report → Limits
reported_limits task r = record {
  version = r.version;
  mode = r.mode;
  calls = r.calls;
  states = r.states;
  depth = r.depth;
  pools = map (share_in task) r.pools;
}

-- ---- whether it fits

-- from 1 to 100,000 calls, from 1 to 200,000 states, and from 1 to 8 deep
abbrev pub are_fit_limits : Report → Bool
are_fit_limits r =
    nat_le 1 r.calls && nat_le r.calls MOST_CALLS && nat_le 1 r.states && nat_le r.states MOST_STATES
    && nat_le 1 r.depth
    && nat_le r.depth MOST_DEPTH

-- the workers of these pools together
abbrev pub workers_together : List PoolLine → ℕ
workers_together pools = sum_by (λ (p : PoolLine). p.workers) pools

-- the streams that these pools serve
abbrev pub served_by : Task → List PoolLine → List ℕ
served_by task pools = flat_map (pool_line_streams task) pools

-- a stream of the task that isn't one of these
abbrev pub is_new : List ℕ → Option ℕ → Bool
is_new before None = false
is_new before (Some stream) = not (list_any (λ s. s == stream) before)

-- each of the names is that of a stream of the task, and none of a stream that was named before
abbrev pub are_new : Task → List ℕ → List (List ℕ) → Bool
are_new task before [] = true
are_new task before (name ∷ names) =
    is_new before (stream_named task name)
    && are_new task (before ++ unwrap_or (option_map (λ stream. stream ∷ []) (stream_named task name)) []) names

-- From 1 to 16 workers, with the pools before at most 17 together; streams of the task that aren't served before.
abbrev pub is_fit_pool : Task → List PoolLine → PoolLine → Bool
is_fit_pool task before pool =
    nat_le 1 pool.workers && nat_le pool.workers WORKERS && nat_le (workers_together before + pool.workers) CHILDREN
    && are_new task (served_by task before) pool.streams

-- each stream of the task has a pool
abbrev pub are_served : Task → List PoolLine → Bool
are_served task pools =
    list_all (λ (s : Stream). list_any (λ (p : PoolLine). list_any (same_numbers s.name) p.streams) pools) task.streams

-- each pool fits behind those before it
abbrev pub AreFitPoolLines : Task → List PoolLine → Type 0
AreFitPoolLines task pools =
    (place : ℕ) (pool : PoolLine) → slice_get pools place ≡ Some pool → is_fit_pool task (take place pools) pool ≡ true

-- The head fits the task: its limits and pools are as they should.
pub record IsFitReportHead (task : Task) (r : Report) : Type 0 where
  pub limits : are_fit_limits r ≡ true
  pub pools : AreFitPoolLines task r.pools
  pub served : are_served task r.pools ≡ true
