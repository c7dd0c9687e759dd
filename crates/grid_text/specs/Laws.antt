-- Laws of the definitions. Each is the contract of a public function of `laws.rt`, and so is proved.
use Rattle.std.specs.Prelude.{◌≡◌, ◌↔◌, ℕ, true, List}
use Rattle.std.specs.List.{All}
use Rattle.std.specs.Str.{IsAscii}
use Rattle.grid_text.specs.Files.{IsGridOf}
use Rattle.grid_text.specs.Grids.{GridFile, NamedRect}
use Rattle.grid_text.specs.declared.grid.Block.{Block}
use Rattle.grid_text.specs.declared.rect.Rect.{Rect}
use Rattle.grid_text.specs.Rects.{Cell, IsCellOf, HasCells, is_within, meets}

-- To lie within another rectangle is to have no cell that isn't one of the other's.
abbrev pub WithinIsByCells : Type 0
WithinIsByCells =
    (a b : Rect) → HasCells a → (is_within a b ≡ true) ↔ ((cell : Cell) → IsCellOf cell a → IsCellOf cell b)

-- To meet another rectangle is to have a cell in common with it.
abbrev pub MeetingIsByCells : Type 0
MeetingIsByCells =
    (a b : Rect) → HasCells a → HasCells b
    → (meets a b ≡ true) ↔ ((cell : Cell) × IsCellOf cell a × IsCellOf cell b)

-- A text that is read is ASCII.
abbrev pub ReadIsAscii : Type 0
ReadIsAscii = (bytes : List ℕ) (grid : GridFile) → IsGridOf bytes grid → IsAscii bytes

-- the cells of a block where it stands at first
abbrev pub home_rect : Block → Rect
home_rect block = record { x = block.x; y = block.y; w = block.w; h = block.h }

-- Each block, region and obstacle has a cell.
pub record AllHaveCells (grid : GridFile) : Type 0 where
  pub blocks : All (λ (block : Block). HasCells (home_rect block)) grid.blocks
  pub regions : All (λ (region : NamedRect). HasCells region.rect) grid.regions
  pub obstacles : All HasCells grid.obstacles

-- So it is in a grid that is read.
abbrev pub ReadHasCells : Type 0
ReadHasCells = (bytes : List ℕ) (grid : GridFile) → IsGridOf bytes grid → AllHaveCells grid
