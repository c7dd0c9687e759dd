use Rattle.stream_map.proofs.GridLemmas.{ArePassed}
use Rattle.stream_map.proofs.grid.grid_place.Given as goal

-- the pools that were passed aren't the grid's
abbrev pub invariant-loop-place : goal.invariant-loop-place
invariant-loop-place l = ArePassed l.pools l.place
