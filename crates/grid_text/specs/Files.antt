-- Grid files, and their first faulty line.
use Rattle.std.specs.Prelude.{◌≡◌, ℕ, ◌+◌, ◌<◌, ◌⊎◌, true, false, List, [], length, take, slice_index_or, Option, Some, None}
use Rattle.grid_text.specs.Grids.{GridFile, grid_of, fault_in}
use Rattle.grid_text.specs.Lines.{lines_in, is_bare}
use Rattle.grid_text.specs.declared.fault.GridFault.{GridFault}
use Rattle.grid_text.specs.declared.fault.GridFault.TheVariants.{At, Memory}
use Rattle.grid_text.specs.declared.fault.GridKind.{GridKind}
use Rattle.grid_text.specs.declared.fault.GridKind.TheVariants.{Form}

-- the first fault of the line at a place, by the lines before it
unfoldable pub line_fault_at : List (List ℕ) → ℕ → Option GridKind
line_fault_at lines k = fault_in (grid_of (take k lines)) (slice_index_or lines k [])

-- some line isn't passed over, no line has a fault, and the grid is what they say
pub record IsGridOf (bytes : List ℕ) (grid : GridFile) : Type 0 where
  pub some : is_bare bytes ≡ false
  pub right : (k : ℕ) → k < length (lines_in bytes) → line_fault_at (lines_in bytes) k ≡ None
  pub says : grid ≡ grid_of (lines_in bytes)

-- some line isn't passed over, and this is the first that has a fault, counted from 1, with its first fault
pub record IsFirstGridFault (bytes : List ℕ) (line : ℕ) (kind : GridKind) : Type 0 where
  pub some : is_bare bytes ≡ false
  pub place : ℕ
  pub is : line ≡ place + 1
  pub within : place < length (lines_in bytes)
  pub before : (k : ℕ) → k < place → line_fault_at (lines_in bytes) k ≡ None
  pub here : line_fault_at (lines_in bytes) place ≡ Some kind

-- all lines are passed over, which is told at the first line whatever else they have
pub record IsBareFault (bytes : List ℕ) (line : ℕ) (kind : GridKind) : Type 0 where
  pub all : is_bare bytes ≡ true
  pub is : (line ≡ 1) × (kind ≡ Form)

-- the first faulty line, with that line's first fault
abbrev pub BlamesGridText : List ℕ → GridFault → Type 0
BlamesGridText bytes (At line kind) = IsBareFault bytes line kind ⊎ IsFirstGridFault bytes line kind
BlamesGridText bytes Memory = Unit {0}
