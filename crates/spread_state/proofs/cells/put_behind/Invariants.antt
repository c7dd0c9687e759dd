use Rattle.std.proofs.Common.{◌≡◌, ◌++◌, take}
use Rattle.spread_state.proofs.cells.put_behind.Given as goal

-- the atoms that were passed stand behind the others
abbrev pub invariant-loop-atom : goal.invariant-loop-atom
invariant-loop-atom l = l.atoms.items ≡ l.fn.atoms.items ++ take l.atom-index l.atom-items
