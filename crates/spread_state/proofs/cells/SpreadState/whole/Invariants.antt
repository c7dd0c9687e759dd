use Rattle.std.proofs.Common.{◌≡◌, take}
use Rattle.std.specs.List.{flat_map}
use Rattle.task_model.specs.State.{items}
use Rattle.spread_state.proofs.cells.SpreadState.whole.Given as goal

-- the atoms of the cells that were passed
abbrev pub invariant-loop-cell : goal.invariant-loop-cell
invariant-loop-cell l = l.atoms.items ≡ flat_map items (take l.cell-index l.cell-items)
