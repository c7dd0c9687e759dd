-- Laws of the definitions. Each is the contract of a public function of `laws.rt`, and so is proved.
use Rattle.std.specs.Prelude.{◌≡◌, ◌↔◌, ℕ, ◌<◌, ◌^◌, List, ◌++◌, codes, Contains, Some}
use Rattle.std.specs.Fmt.{decimal}
use Rattle.grid_text.specs.Files.{IsGridOf}
use Rattle.grid_text.specs.Grids.{GridFile, NamedRect}
use Rattle.grid_text.specs.Rects.{Cell, IsCellOf}
use Rattle.grid_text.specs.declared.grid.Block.{Block}
use Rattle.grid_text.specs.declared.rect.Rect.{Rect}
use Rattle.grid_world.specs.Answers.{poses_in, pose_answer}
use Rattle.grid_world.specs.Words.{pose_of, rect_at}
use Rattle.grid_world.specs.declared.words.Corner.{Corner}

-- with this corner all cells of the block are cells of the region, and none is a cell of an obstacle
pub record LiesFree (grid : GridFile) (block : Block) (region : Rect) (corner : Corner) : Type 0 where
  pub within : (cell : Cell) → IsCellOf cell (rect_at block corner) → IsCellOf cell region
  pub free : (obstacle : Rect) → Contains grid.obstacles obstacle
      → (cell : Cell) → IsCellOf cell (rect_at block corner) → ¬ (IsCellOf cell obstacle)

-- In a grid that is read, the poses of a block in a region are exactly the corners with which it lies there by its
-- cells.
abbrev pub PlacesAreByCells : Type 0
PlacesAreByCells =
    (bytes : List ℕ) (grid : GridFile) → IsGridOf bytes grid → (block : Block) (region : NamedRect)
    → Contains grid.blocks block → Contains grid.regions region → (corner : Corner)
    → Contains (poses_in grid (Some block) (Some region)) (pose_answer corner)
    ↔ LiesFree grid block region.rect corner

-- the text of a corner: its two numbers in decimal, a comma between them, each below 2^32
pub record IsCornerText (text : List ℕ) (corner : Corner) : Type 0 where
  pub is : text ≡ decimal corner.x ++ codes "," ++ decimal corner.y
  pub x : corner.x < 2 ^ 32
  pub y : corner.y < 2 ^ 32

-- A word that begins with `#` means a corner exactly where that corner's text stands behind it.
abbrev pub PoseWordsAreSpelled : Type 0
PoseWordsAreSpelled =
    (grid : GridFile) (text : List ℕ) (corner : Corner)
    → (pose_of grid (codes "#" ++ text) ≡ Some corner) ↔ IsCornerText text corner
