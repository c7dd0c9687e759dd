use Rattle.std.proofs.Common.{◌≡◌, drop}
use Rattle.session_core.specs.Slots.{slot_of}
use Rattle.session_core.proofs.round.cell_of.Given as goal

-- what is left decides
abbrev pub invariant-loop-cell : goal.invariant-loop-cell
invariant-loop-cell l = slot_of (drop l.cell-index l.cells) l.child ≡ slot_of l.cells l.child
