-- Comparing corners is comparing cells.
use Rattle.std.proofs.Common.{◌≡◌, ℕ, ◌+◌, ◌-◌, ◌<◌, ◌≤◌, true, nat_le, nat_lt, max, refl, arith}
use Rattle.std.proofs.lemmas.Bool.{and_parts}
use Rattle.std.proofs.lemmas.Bool.Decides.{nat_tests}
use Rattle.grid_text.specs.declared.rect.Rect.{Rect}
use Rattle.grid_text.specs.Laws.{WithinIsByCells, MeetingIsByCells}
use Rattle.grid_text.specs.Rects.{Cell, IsCellOf, HasCells, is_within, meets}
use Rattle.lemmas.proofs.Numbers.{le_test, lt_told}

le_told : (m n : ℕ) → nat_le m n ≡ true → m ≤ n
le_told m n e = grind (arith, nat_tests, e)

lt_test : (m n : ℕ) → m < n → nat_lt m n ≡ true
lt_test m n h = grind (arith, nat_tests, h)

pub record Corners (a b : Rect) : Type 0 where
  pub left : b.x ≤ a.x
  pub top : b.y ≤ a.y
  pub right : a.x + a.w ≤ b.x + b.w
  pub bottom : a.y + a.h ≤ b.y + b.h

pub corners_told : (a b : Rect) → is_within a b ≡ true → Corners a b
unfolding is_within
corners_told a b e =
    let p = and_parts _ (nat_le (a.y + a.h) (b.y + b.h)) e in
    let q = and_parts _ (nat_le (a.x + a.w) (b.x + b.w)) p.0 in
    let r = and_parts (nat_le b.x a.x) (nat_le b.y a.y) q.0 in
    record {
      left = le_told b.x a.x r.0;
      top = le_told b.y a.y r.1;
      right = le_told (a.x + a.w) (b.x + b.w) q.1;
      bottom = le_told (a.y + a.h) (b.y + b.h) p.1;
    }

corners_test : (a b : Rect) → Corners a b → is_within a b ≡ true
unfolding is_within
corners_test a b c =
    rw (le_test b.x a.x c.left, le_test b.y a.y c.top, le_test (a.x + a.w) (b.x + b.w) c.right, le_test (a.y + a.h) (b.y + b.h) c.bottom)
    refl

cells_within : (a b : Rect) → Corners a b → (cell : Cell) → IsCellOf cell a → IsCellOf cell b
cells_within a b c cell i =
    record { column = (omega arith, omega arith); row = (omega arith, omega arith) }

first_cell : (a : Rect) → HasCells a → IsCellOf (record { x = a.x; y = a.y }) a
first_cell a h =
    record { column = (omega arith, omega (arith, h.0)); row = (omega arith, omega (arith, h.1)) }

last_cell : (a : Rect) → HasCells a → IsCellOf (record { x = a.x + a.w - 1; y = a.y + a.h - 1 }) a
last_cell a h = record { column = (omega (arith, h.0), omega (arith, h.0)); row = (omega (arith, h.1), omega (arith, h.1)) }

corners_of_cells : (a b : Rect) → HasCells a → ((cell : Cell) → IsCellOf cell a → IsCellOf cell b)
    → Corners a b
corners_of_cells a b h each =
    let low = each (record { x = a.x; y = a.y }) (first_cell a h) in
    let high = each (record { x = a.x + a.w - 1; y = a.y + a.h - 1 }) (last_cell a h) in
    record {
      left = low.column.0;
      top = low.row.0;
      right = omega (arith, high.column.1, h.0);
      bottom = omega (arith, high.row.1, h.1);
    }

pub within_is_by_cells : WithinIsByCells
within_is_by_cells a b h = (λ e. cells_within a b (corners_told a b e), λ each. corners_test a b (corners_of_cells a b h each))

record Crossing (a b : Rect) : Type 0 where
  left : a.x < b.x + b.w
  right : b.x < a.x + a.w
  top : a.y < b.y + b.h
  bottom : b.y < a.y + a.h

crossing_told : (a b : Rect) → meets a b ≡ true → Crossing a b
unfolding meets
crossing_told a b e =
    let p = and_parts _ (nat_lt b.y (a.y + a.h)) e in
    let q = and_parts _ (nat_lt a.y (b.y + b.h)) p.0 in
    let r = and_parts (nat_lt a.x (b.x + b.w)) (nat_lt b.x (a.x + a.w)) q.0 in
    record {
      left = lt_told a.x (b.x + b.w) r.0;
      right = lt_told b.x (a.x + a.w) r.1;
      top = lt_told a.y (b.y + b.h) q.1;
      bottom = lt_told b.y (a.y + a.h) p.1;
    }

crossing_test : (a b : Rect) → Crossing a b → meets a b ≡ true
unfolding meets
crossing_test a b c =
    rw (lt_test a.x (b.x + b.w) c.left, lt_test b.x (a.x + a.w) c.right, lt_test a.y (b.y + b.h) c.top, lt_test b.y (a.y + a.h) c.bottom)
    refl

common : Rect → Rect → Cell
common a b = record { x = max a.x b.x; y = max a.y b.y }

common_in : (a b : Rect) → HasCells a → HasCells b → Crossing a b
    → IsCellOf (common a b) a × IsCellOf (common a b) b
unfolding common
common_in a b ha hb c = (
  record { column = (omega arith, omega (arith, ha.0, c.left, c.right)); row = (omega arith, omega (arith, ha.1, c.top, c.bottom)) },
  record { column = (omega arith, omega (arith, hb.0, c.left, c.right)); row = (omega arith, omega (arith, hb.1, c.top, c.bottom)) },
)

crossing_of_cell : (a b : Rect) (cell : Cell) → IsCellOf cell a → IsCellOf cell b → Crossing a b
crossing_of_cell a b cell i j =
    record { left = omega arith; right = omega arith; top = omega arith; bottom = omega arith }

pub meeting_is_by_cells : MeetingIsByCells
meeting_is_by_cells a b ha hb = (
  λ e. let both = common_in a b ha hb (crossing_told a b e) in (common a b, both.0, both.1),
  λ cell. crossing_test a b (crossing_of_cell a b cell.0 cell.1 cell.2),
)
