use Rattle.std.proofs.Common.{◌≡◌, drop}
use Rattle.task_model.specs.State.{without_atoms}
use Rattle.state_store.specs.Rows.{IsRow, state_of}
use Rattle.state_store.proofs.edits.take_out.Given as goal

-- without what is left to take out, it is what was wanted
abbrev pub invariant-loop-atom : goal.invariant-loop-atom
invariant-loop-atom l =
    IsRow l.numbered l.row.items
    × (without_atoms (state_of l.numbered l.row.items) (drop l.atom-index l.atoms)
    ≡ without_atoms (state_of l.numbered l.initial.row.items) l.atoms)
