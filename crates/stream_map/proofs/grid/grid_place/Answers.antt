use Rattle.std.proofs.Common.{◌≡◌, true, rules, arith}
use Rattle.stream_map.proofs.GridLemmas.{begins, grid_found}
use Rattle.stream_map.proofs.grid.grid_place.Goals as goal

pub returns-then-begins_grid-clause-first : goal.returns-then-begins_grid-clause-first
returns-then-begins_grid-clause-first c =
    let begun : begins c.index-pools-place.result ≡ true = search rules in
    grid_found c.args.pools.now c.loop-place.place c.index-pools-place.result
    (omega arith) c.index-pools-place.is begun c.loop-place.invariant
