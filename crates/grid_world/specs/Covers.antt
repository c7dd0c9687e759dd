-- Which corners of a row obstacles keep a block from, by numbers noted at columns.
use Rattle.std.specs.Prelude.{◌≡◌, ℕ, ◌+◌, ◌<◌, Bool, nat_lt, List, slice_index, take}
use Rattle.std.specs.List.{list_any}
use Rattle.grid_text.specs.Rects.{meets}
use Rattle.grid_text.specs.declared.grid.Block.{Block}
use Rattle.grid_text.specs.declared.rect.Rect.{Rect}
use Rattle.grid_world.specs.Words.{rect_at}
use Rattle.grid_world.specs.declared.words.Corner.{Corner}

-- the corner in a column of a row, the columns counted from the region's first
abbrev pub corner_in : Rect → ℕ → ℕ → Corner
corner_in region y column = record { x = region.x + column; y = y }

-- the block with this corner meets an obstacle
abbrev pub covered : List Rect → Block → Rect → ℕ → ℕ → Bool
covered obstacles block region y column =
    list_any (λ obstacle. meets (rect_at block (corner_in region y column)) obstacle) obstacles

-- at each column stands a number past it exactly where the block with its corner there meets an obstacle
abbrev pub CoversColumns : List ℕ → List Rect → Block → Rect → ℕ → Type 0
CoversColumns ends obstacles block region y =
    (column : ℕ) → column < 1000
    → nat_lt column (slice_index ends column) ≡ covered obstacles block region y column

-- a number that is noted at this column or before it is past it
abbrev pub reaches : List ℕ → ℕ → Bool
reaches ends column = list_any (λ (end : ℕ). nat_lt column end) (take (column + 1) ends)
