use Rattle.std.proofs.Common.{◌≡◌, drop}
use Rattle.pools.specs.Pools.{server}
use Rattle.pools.proofs.workers.server.Given as goal

-- what is left decides
abbrev pub invariant-loop-pool : goal.invariant-loop-pool
invariant-loop-pool l = server (drop l.pool-index l.pools) l.stream ≡ server l.pools l.stream
