use Rattle.std.proofs.Common.{◌≡◌, ◌≤◌, length, take, vec_capacity}
use Rattle.state_store.specs.Rows.{row_atoms}
use Rattle.state_store.proofs.rows.atoms_of.Given as goal

-- the atoms of the numbers that were passed, and room for those of the others
abbrev pub invariant-loop-number : goal.invariant-loop-number
invariant-loop-number l =
    (l.atoms.items ≡ row_atoms l.numbered (take l.number-index l.row)) × (length l.row ≤ vec_capacity l.atoms)
