-- The state that comes of one that a store has.
use Rattle.std.specs.Prelude.{ℕ, List, slice_index_or}
use Rattle.task_model.specs.State.{Atoms, empty, without_atoms, with_atoms}
use Rattle.task_model.specs.declared.fact.Atom.{Atom}

-- the state at this place without the atoms that go, and then with those that come
abbrev pub state_after : List Atoms → ℕ → List Atom → List Atom → Atoms
state_after states from gone come = with_atoms (without_atoms (slice_index_or states from empty) gone) come
