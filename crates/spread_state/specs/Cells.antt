-- Sets of atoms that are spread over cells.
use Rattle.std.specs.Prelude.{◌≡◌, ℕ, ◌+◌, ◌*◌, ◌%◌, List, length, get_or, fold, true}
use Rattle.std.specs.List.{flat_map}
use Rattle.spread_state.specs.declared.cells.TheConstants.{CELLS}
use Rattle.task_model.specs.State.{Atoms, contains, empty, from_list, items}
use Rattle.task_model.specs.declared.fact.Atom.{Atom}

-- the cell of an atom
abbrev pub cell_of : Atom → ℕ
cell_of atom = fold (λ cell object. (cell * 1021 + object) % CELLS) (atom.pred % CELLS) atom.args

-- what a cell holds
abbrev pub cell_in : List Atoms → ℕ → Atoms
cell_in cells k = get_or cells k empty

-- all atoms of the cells
abbrev pub cell_atoms : List Atoms → Atoms
cell_atoms cells = from_list (flat_map items cells)

-- Each atom stands in its cell.
pub record IsSpread (cells : List Atoms) : Type 0 where
  pub many : length cells ≡ CELLS
  pub own : (k : ℕ) (atom : Atom) → contains (cell_in cells k) atom ≡ true → cell_of atom ≡ k
