use Rattle.std.proofs.Common.{◌≡◌, drop}
use Rattle.task_model.specs.State.{empty, with_atoms}
use Rattle.spread_state.proofs.cells.SpreadState.spread.Given as goal

-- with the atoms that are left it is what was wanted
abbrev pub invariant-loop-atom : goal.invariant-loop-atom
invariant-loop-atom l = with_atoms l.spread (drop l.atom-index l.atom-items) ≡ with_atoms empty l.atom-items
