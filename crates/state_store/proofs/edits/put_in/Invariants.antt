use Rattle.std.proofs.Common.{◌≡◌, drop}
use Rattle.lemmas.specs.Lists.{AreDistinct}
use Rattle.task_model.specs.State.{with_atoms}
use Rattle.state_store.specs.Rows.{AddsAtoms, IsRow, state_of}
use Rattle.state_store.proofs.edits.put_in.Given as goal

-- with what is left to put in, it is what was wanted
abbrev pub invariant-loop-atom : goal.invariant-loop-atom
invariant-loop-atom l =
    IsRow l.numbered.keys l.row.items
    × (with_atoms (state_of l.numbered.keys l.row.items) (drop l.atom-index l.atoms)
    ≡ with_atoms (state_of l.initial.numbered.keys l.initial.row.items) l.atoms)
    × AddsAtoms l.fn.numbered.keys l.numbered.keys × AreDistinct l.numbered.keys
