use Rattle.std.proofs.Common.{◌≡◌, map, take}
use Rattle.pools.specs.Pools.{workers_of}
use Rattle.pools.proofs.workers.workers_in.Given as goal

abbrev pub invariant-loop-pool : goal.invariant-loop-pool
invariant-loop-pool l = l.all.items ≡ map workers_of (take l.pool-index l.pools)
