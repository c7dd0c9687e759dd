-- Rectangles as sets of cells, and the comparisons of corners that say the same.
use Rattle.std.specs.Prelude.{ℕ, ◌+◌, ◌<◌, ◌≤◌, Bool, ◌&&◌, nat_le, nat_lt}
use Rattle.grid_text.specs.declared.rect.Rect.{Rect}

pub record Cell : Type 0 where
  pub x : ℕ
  pub y : ℕ

-- the cell is one of the rectangle's
pub record IsCellOf (cell : Cell) (rect : Rect) : Type 0 where
  pub column : (rect.x ≤ cell.x) × (cell.x < rect.x + rect.w)
  pub row : (rect.y ≤ cell.y) × (cell.y < rect.y + rect.h)

-- it has a cell
abbrev pub HasCells : Rect → Type 0
HasCells rect = (0 < rect.w) × (0 < rect.h)

-- it lies in the largest grid that there may be
abbrev pub LiesInLargest : Rect → Type 0
LiesInLargest rect = (rect.x + rect.w ≤ 1000) × (rect.y + rect.h ≤ 1000)

-- the inner rectangle doesn't reach over an edge of the outer one
unfoldable pub is_within : Rect → Rect → Bool
is_within inner outer =
    nat_le outer.x inner.x && nat_le outer.y inner.y
    && nat_le (inner.x + inner.w) (outer.x + outer.w) && nat_le (inner.y + inner.h) (outer.y + outer.h)

-- each rectangle begins before the other ends, in both directions
unfoldable pub meets : Rect → Rect → Bool
meets a b =
    nat_lt a.x (b.x + b.w) && nat_lt b.x (a.x + a.w) && nat_lt a.y (b.y + b.h) && nat_lt b.y (a.y + a.h)
