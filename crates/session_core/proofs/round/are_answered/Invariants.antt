use Rattle.std.proofs.Common.{◌≡◌, drop}
use Rattle.session_core.specs.Slots.{all_answered}
use Rattle.session_core.proofs.round.are_answered.Given as goal

-- what is left decides
abbrev pub invariant-loop-cell : goal.invariant-loop-cell
invariant-loop-cell l = all_answered (drop l.cell-index l.cells) ≡ all_answered l.cells
