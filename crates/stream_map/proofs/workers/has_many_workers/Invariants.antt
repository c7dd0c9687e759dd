use Rattle.std.proofs.Common.{◌≡◌, ◌+◌, drop, map, sum_by}
use Rattle.stream_map.specs.Faults.{own_workers}
use Rattle.stream_map.specs.Spelled.{shown_pool_text}
use Rattle.stream_map.proofs.workers.has_many_workers.Given as goal

-- the workers that were passed and those that are left make 16
abbrev pub invariant-loop-pool : goal.invariant-loop-pool
invariant-loop-pool l =
    sum_by own_workers (map shown_pool_text l.pools) + l.left
    ≡ 16 + sum_by own_workers (map shown_pool_text (drop l.pool-index l.pools))
