use Rattle.std.proofs.Common.{◌≡◌, ◌+◌, ◌*◌, ◌%◌, ◌<◌, drop, fold}
use Rattle.spread_state.specs.declared.cells.TheConstants.{CELLS}
use Rattle.spread_state.proofs.cells.cell_of.Given as goal

-- with the objects that are left it is what was wanted
abbrev pub invariant-loop-object : goal.invariant-loop-object
invariant-loop-object l =
    (fold (λ cell object. (cell * 1021 + object) % CELLS) l.cell (drop l.object-index l.object-items)
    ≡ fold (λ cell object. (cell * 1021 + object) % CELLS) (l.fn.atom.pred % CELLS) l.fn.atom.args)
    × (l.cell < CELLS)
