-- States as rows of numbers. Each atom has a number, its place in a list of distinct atoms, and the row of a state has
-- the numbers of its atoms, in the order of the atoms.
use Rattle.std.specs.Prelude.{◌≡◌, ℕ, ◌<◌, List, [], ◌++◌, length, map, Some, slice_get, slice_index_or, All}
use Rattle.lemmas.specs.Lists.{AreDistinct}
use Rattle.task_model.specs.State.{Atoms, from_list, items}
use Rattle.task_model.specs.declared.fact.Atom.{Atom}
use Rattle.state_store.specs.Kept.{AreKept}

-- what stands for a number that no atom has
abbrev pub no_atom : Atom
no_atom = record { pred = 0; args = [] }

-- the atoms that have these numbers
abbrev pub row_atoms : List Atom → List ℕ → List Atom
row_atoms atoms row = map (λ n. slice_index_or atoms n no_atom) row

abbrev pub state_of : List Atom → List ℕ → Atoms
state_of atoms row = from_list (row_atoms atoms row)

abbrev pub states_of : List Atom → List (List ℕ) → List Atoms
states_of atoms rows = map (state_of atoms) rows

-- Each number is that of an atom, and the atoms stand as their state lists them.
pub record IsRow (atoms : List Atom) (row : List ℕ) : Type 0 where
  pub known : All (λ n. n < length atoms) row
  pub in_order : row_atoms atoms row ≡ items (state_of atoms row)

-- The atoms are distinct, each list of numbers is a row, and the states are distinct and few enough to be numbered.
pub record AreRows (atoms : List Atom) (rows : List (List ℕ)) : Type 0 where
  pub numbered : AreDistinct atoms
  pub each : (k : ℕ) (row : List ℕ) → slice_get rows k ≡ Some row → IsRow atoms row
  pub kept : AreKept (states_of atoms rows)

-- atoms were put behind the others
abbrev pub AddsAtoms : List Atom → List Atom → Type 0
AddsAtoms old new = (more : List Atom) × (new ≡ old ++ more)
