use Rattle.std.proofs.Common.{◌≡◌, ◌<◌, take, length, All}
use Rattle.lemmas.specs.Lists.{AreDistinct}
use Rattle.state_store.specs.Rows.{row_atoms, AddsAtoms}
use Rattle.state_store.proofs.rows.numbers_of.Given as goal

-- the row stands for the atoms that were passed
abbrev pub invariant-loop-atom : goal.invariant-loop-atom
invariant-loop-atom l =
    (row_atoms l.numbered.keys l.row.items ≡ take l.atom-index l.atoms) × All (λ n. n < length l.numbered.keys) l.row.items
    × AddsAtoms l.fn.numbered.keys l.numbered.keys × AreDistinct l.numbered.keys
