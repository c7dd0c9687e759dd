-- Poses of a region, row by row and corner by corner.
use Rattle.std.proofs.Common.{◌≡◌, ℕ, zero, suc, ◌+◌, ◌-◌, ◌<◌, ◌≤◌, Bool, true, false, List, [], ◌∷◌, ◌++◌, map, filter, refl, sym, ap, ◌∙◌, arith}
use Rattle.std.specs.List.{flat_map}
use Rattle.std.proofs.lemmas.List.{map-append}
use Rattle.std.proofs.lemmas.List.Elements.{filter-append}
use Rattle.lemmas.specs.Lists.{numbers_from}
use Rattle.grid_text.specs.Grids.{GridFile}
use Rattle.grid_text.specs.declared.grid.Block.{Block}
use Rattle.grid_text.specs.declared.rect.Rect.{Rect}
use Rattle.grid_world.specs.Answers.{may_lie, nth, pose_answer, poses_at, row_corners}
use Rattle.grid_world.specs.declared.answer.GridAnswer.{GridAnswer}
use Rattle.grid_world.specs.declared.words.Corner.{Corner}

numbers_step : (first n : ℕ) → 0 < n
    → numbers_from first n ≡ first ∷ numbers_from (first + 1) (n - 1)
numbers_step first zero h = absurd (omega arith)
numbers_step first (suc n) h = let e : suc n - 1 ≡ n = omega arith in rw e refl

numbers_at : (first n k : ℕ) → k < n
    → numbers_from (first + k) (n - k) ≡ (first + k) ∷ numbers_from (first + (k + 1)) (n - (k + 1))
numbers_at first n k h =
    let a : first + k + 1 ≡ first + (k + 1) = omega arith in
    let b : n - k - 1 ≡ n - (k + 1) = omega arith in
    numbers_step (first + k) (n - k) (omega arith) ∙ rw (a, b) refl

numbers_none : (first n k : ℕ) → n ≤ k → numbers_from (first + k) (n - k) ≡ []
numbers_none first n k h = let e : n - k ≡ 0 = omega arith in rw e refl

-- the poses of a row from a column on, and of a region from a row on
abbrev pub row_from : GridFile → Block → Rect → ℕ → ℕ → List GridAnswer
row_from grid block region y column =
    poses_at grid block region (row_corners (region.x + column) (region.w - column) y)

abbrev pub rows_from : GridFile → Block → Rect → ℕ → List GridAnswer
rows_from grid block region row =
    poses_at grid block region (flat_map (row_corners region.x region.w) (numbers_from (region.y + row) (region.h - row)))

-- the answer at a place of all is that at what is left in the rest, whatever comes behind
abbrev pub Leaves : List GridAnswer → ℕ → ℕ → List GridAnswer → Type 0
Leaves all turn left rest =
    (more : List GridAnswer) → nth turn (all ++ more) ≡ nth left (rest ++ more)

corner_step : (region : Rect) (y column : ℕ) → column < region.w →
    row_corners (region.x + column) (region.w - column) y
    ≡ record { x = region.x + column; y = y } ∷ row_corners (region.x + (column + 1)) (region.w - (column + 1)) y
corner_step region y column h = rw (numbers_at region.x region.w column h) refl

pub filter_good : (p : Corner → Bool) (c : Corner) (cs : List Corner) → p c ≡ true
    → filter p (c ∷ cs) ≡ c ∷ filter p cs
filter_good p c cs e = rw e refl

pub filter_bad : (p : Corner → Bool) (c : Corner) (cs : List Corner) → p c ≡ false
    → filter p (c ∷ cs) ≡ filter p cs
filter_bad p c cs e = rw e refl

poses_good : (grid : GridFile) (block : Block) (region : Rect) (c : Corner) (cs : List Corner)
    → may_lie grid block region c ≡ true
    → poses_at grid block region (c ∷ cs) ≡ pose_answer c ∷ poses_at grid block region cs
poses_good grid block region c cs e =
    ap (map pose_answer) (filter_good (may_lie grid block region) c cs e)

poses_bad : (grid : GridFile) (block : Block) (region : Rect) (c : Corner) (cs : List Corner)
    → may_lie grid block region c ≡ false
    → poses_at grid block region (c ∷ cs) ≡ poses_at grid block region cs
poses_bad grid block region c cs e =
    ap (map pose_answer) (filter_bad (may_lie grid block region) c cs e)

row_yes : (grid : GridFile) (block : Block) (region : Rect) (y column : ℕ) (corner : Corner)
    → column < region.w → corner ≡ record { x = region.x + column; y = y }
    → may_lie grid block region corner ≡ true →
    row_from grid block region y column ≡ pose_answer corner ∷ row_from grid block region y (column + 1)
row_yes grid block region y column corner h e good =
    ap (poses_at grid block region) (corner_step region y column h)
    ∙ ap (λ c. poses_at grid block region (c ∷ row_corners (region.x + (column + 1)) (region.w - (column + 1)) y)) (sym e)
    ∙ poses_good grid block region corner (row_corners (region.x + (column + 1)) (region.w - (column + 1)) y) good

row_no : (grid : GridFile) (block : Block) (region : Rect) (y column : ℕ) (corner : Corner)
    → column < region.w → corner ≡ record { x = region.x + column; y = y }
    → may_lie grid block region corner ≡ false →
    row_from grid block region y column ≡ row_from grid block region y (column + 1)
row_no grid block region y column corner h e bad =
    ap (poses_at grid block region) (corner_step region y column h)
    ∙ ap (λ c. poses_at grid block region (c ∷ row_corners (region.x + (column + 1)) (region.w - (column + 1)) y)) (sym e)
    ∙ poses_bad grid block region corner (row_corners (region.x + (column + 1)) (region.w - (column + 1)) y) bad

nth_later : (k : ℕ) (x : GridAnswer) (xs : List GridAnswer) → 0 < k
    → nth k (x ∷ xs) ≡ nth (k - 1) xs
nth_later zero x xs h = absurd (omega arith)
nth_later (suc k) x xs h = let e : suc k - 1 ≡ k = omega arith in rw e refl

pub passes : (grid : GridFile) (block : Block) (region : Rect) (y column turn left : ℕ) (all : List GridAnswer) (corner : Corner)
    → column < region.w → corner ≡ record { x = region.x + column; y = y }
    → may_lie grid block region corner ≡ false →
    Leaves all turn left (row_from grid block region y column) → Leaves all turn left (row_from grid block region y (column + 1))
passes grid block region y column turn left all corner h e bad i more =
    i more ∙ ap (λ rest. nth left (rest ++ more)) (row_no grid block region y column corner h e bad)

pub counts : (grid : GridFile) (block : Block) (region : Rect) (y column turn left : ℕ) (all : List GridAnswer) (corner : Corner)
    → column < region.w → corner ≡ record { x = region.x + column; y = y }
    → may_lie grid block region corner ≡ true → 0 < left →
    Leaves all turn left (row_from grid block region y column) → Leaves all turn (left - 1) (row_from grid block region y (column + 1))
counts grid block region y column turn left all corner h e good some i more =
    i more ∙ ap (λ rest. nth left (rest ++ more)) (row_yes grid block region y column corner h e good)
    ∙ nth_later left (pose_answer corner) (row_from grid block region y (column + 1) ++ more) some

pub finds : (grid : GridFile) (block : Block) (region : Rect) (y column turn left : ℕ) (all : List GridAnswer) (corner : Corner)
    → column < region.w → corner ≡ record { x = region.x + column; y = y }
    → may_lie grid block region corner ≡ true → left ≡ 0 →
    Leaves all turn left (row_from grid block region y column) → (more : List GridAnswer) → nth turn (all ++ more) ≡ pose_answer corner
finds grid block region y column turn left all corner h e good none i more =
    i more ∙ ap (λ rest. nth left (rest ++ more)) (row_yes grid block region y column corner h e good)
    ∙ ap (λ k. nth k (pose_answer corner ∷ (row_from grid block region y (column + 1) ++ more))) none

pub ends : (grid : GridFile) (block : Block) (region : Rect) (y column turn left : ℕ) (all : List GridAnswer)
    → region.w ≤ column →
    Leaves all turn left (row_from grid block region y column) → (more : List GridAnswer) → nth turn (all ++ more) ≡ nth left more
ends grid block region y column turn left all h i more =
    i more ∙ rw (numbers_none region.x region.w column h) refl

poses_append : (grid : GridFile) (block : Block) (region : Rect) (xs ys : List Corner)
    → poses_at grid block region (xs ++ ys) ≡ poses_at grid block region xs ++ poses_at grid block region ys
poses_append grid block region xs ys =
    ap (map pose_answer) (filter-append (may_lie grid block region) xs ys)
    ∙ map-append pose_answer (filter (may_lie grid block region) xs) (filter (may_lie grid block region) ys)

pub rows_more : (grid : GridFile) (block : Block) (region : Rect) (row : ℕ) → row < region.h →
    rows_from grid block region row
    ≡ poses_at grid block region (row_corners region.x region.w (region.y + row)) ++ rows_from grid block region (row + 1)
rows_more grid block region row h =
    ap (λ ys. poses_at grid block region (flat_map (row_corners region.x region.w) ys)) (numbers_at region.y region.h row h)
    ∙ poses_append grid block region (row_corners region.x region.w (region.y + row))
    (flat_map (row_corners region.x region.w) (numbers_from (region.y + (row + 1)) (region.h - (row + 1))))
