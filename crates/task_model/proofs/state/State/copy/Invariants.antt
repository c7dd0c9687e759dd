use Rattle.std.proofs.Common.{◌≡◌, take}
use Rattle.task_model.proofs.state.State.copy.Given as goal

-- the atoms that were passed are in the copy
abbrev pub invariant-loop-atom : goal.invariant-loop-atom
invariant-loop-atom l = l.atoms.items ≡ take l.atom-index l.atom-items
