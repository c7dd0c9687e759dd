-- A state: the atoms of fluents that are true (PDDL 2.1). All other atoms of fluents are false.
-- It is a finite set, kept as a finite map to nothing, so that its members in order can be named.
use Rattle.std.specs.FinMap as map
use Rattle.std.specs.Prelude.{ℕ, Bool, List, [], ◌∷◌}
use Rattle.std.specs.Coded.{Coded}
use Rattle.task_model.specs.AtomOrder.{atom_cmp, atom_code}
use Rattle.task_model.specs.declared.fact.Atom.{Atom}
use base.Stored.{coded_unit}

-- a finite set of atoms
abbrev pub Atoms : Type 0
Atoms = map.FinMap atom_cmp (Unit {0})

abbrev pub atoms_code : Coded Atoms
atoms_code = map.code atom_code coded_unit

abbrev pub empty : Atoms
empty = map.empty

abbrev pub contains : Atoms → Atom → Bool
contains state atom = map.contains_key state atom

abbrev pub insert : Atoms → Atom → Atoms
insert state atom = map.insert state atom tt

abbrev pub remove : Atoms → Atom → Atoms
remove state atom = map.remove state atom

abbrev pub len : Atoms → ℕ
len state = map.len state

-- the atoms in their order
abbrev pub items : Atoms → List Atom
items state = map.keys state

abbrev pub from_list : List Atom → Atoms
from_list [] = empty
from_list (atom ∷ atoms) = insert (from_list atoms) atom

-- the state without these atoms
abbrev pub without_atoms : Atoms → List Atom → Atoms
without_atoms state [] = state
without_atoms state (atom ∷ more) = without_atoms (remove state atom) more

-- the state with these atoms
abbrev pub with_atoms : Atoms → List Atom → Atoms
with_atoms state [] = state
with_atoms state (atom ∷ more) = with_atoms (insert state atom) more
