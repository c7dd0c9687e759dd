use Rattle.std.proofs.Common.{◌≡◌, drop, map}
use Rattle.stream_map.specs.Children.{grid_file, plain}
use Rattle.stream_map.proofs.grid.grid_path.Given as goal

-- the file isn't that of a pool that was passed
abbrev pub invariant-loop-pool : goal.invariant-loop-pool
invariant-loop-pool l =
    grid_file (map plain l.pools) ≡ grid_file (map plain (drop l.pool-index l.pools))
