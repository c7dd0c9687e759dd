-- Numbers noted at columns say which corners are covered.
use Rattle.std.proofs.Common.{◌≡◌, ℕ, zero, suc, ◌+◌, ◌-◌, ◌<◌, ◌≤◌, Bool, true, false, not, ◌&&◌, ◌||◌, nat_le, nat_lt, List, [], ◌∷◌, length, take, get_or, replicate, set, max, refl, sym, ap, ◌∙◌, arith}
use Rattle.std.specs.List.{list_any}
use Rattle.std.proofs.lemmas.Bool.Decides.{nat_tests}
use Rattle.grid_text.specs.Grids.{GridFile}
use Rattle.grid_text.specs.Rects.{is_within, meets}
use Rattle.grid_text.specs.declared.grid.Block.{Block}
use Rattle.grid_text.specs.declared.rect.Rect.{Rect}
use Rattle.grid_world.specs.Answers.{may_lie}
use Rattle.grid_world.specs.Covers.{CoversColumns, corner_in, reaches}
use Rattle.grid_world.specs.Words.{rect_at}
use Rattle.lemmas.proofs.Bools.{or_assoc, or_false}

pub lt_max : (c a b : ℕ) → nat_lt c (max a b) ≡ (nat_lt c a || nat_lt c b)
lt_max c a b = grind (arith, nat_tests)

or_skip : (a b c : Bool) → ((a || b) || c) ≡ ((a || c) || b)
or_skip true b c = refl
or_skip false true true = refl
or_skip false true false = refl
or_skip false false true = refl
or_skip false false false = refl

-- a number that is raised at a place passes a test more, if the place is among the first n
any_raised : (p : ℕ → Bool) (xs : List ℕ) (n at y : ℕ) (more : Bool) → at < length xs
    → p y ≡ (p (get_or xs at 0) || more)
    → list_any p (take n (set xs at y)) ≡ (list_any p (take n xs) || (nat_lt at n && more))
any_raised p [] n at y more h e = absurd (omega arith)
any_raised p (x ∷ xs) zero at y more h e =
    let none : nat_lt at 0 ≡ false = grind (arith, nat_tests) in rw none refl
any_raised p (x ∷ xs) (suc n) zero y more h e =
    let here : nat_lt 0 (suc n) ≡ true = grind (arith, nat_tests) in
    let told : p y ≡ (p x || more) = e in
    rw here (ap (λ b. b || list_any p (take n xs)) told ∙ or_skip (p x) more (list_any p (take n xs)))
any_raised p (x ∷ xs) (suc n) (suc at) y more h e =
    let same : nat_lt (suc at) (suc n) ≡ nat_lt at n = grind (arith, nat_tests) in
    rw same
    (ap (λ b. p x || b) (any_raised p xs n at y more (omega arith) e) ∙ or_assoc (p x) (list_any p (take n xs)) (nat_lt at n && more))

any_blank : (n m column : ℕ)
    → list_any (λ (end : ℕ). nat_lt column end) (take m (replicate n 0)) ≡ false
any_blank zero zero column = refl
any_blank zero (suc m) column = refl
any_blank (suc n) zero column = refl
any_blank (suc n) (suc m) column =
    let none : nat_lt column 0 ≡ false = grind (arith, nat_tests) in rw none (any_blank n m column)

-- nothing is noted at first
pub reaches_none : (n column : ℕ) → reaches (replicate n 0) column ≡ false
reaches_none n column = any_blank n (column + 1) column

before_more : (at column : ℕ) → nat_lt at (column + 1) ≡ nat_le at column
before_more at column = grind (arith, nat_tests)

-- raising the number at a column to the end of a run that begins there
pub reaches_raised : (ends : List ℕ) (begin end column : ℕ) → begin < length ends
    → reaches (set ends begin (max (get_or ends begin 0) end)) column
    ≡ (reaches ends column || (nat_le begin column && nat_lt column end))
reaches_raised ends begin end column h =
    any_raised (λ (e : ℕ). nat_lt column e) ends (column + 1) begin (max (get_or ends begin 0) end)
    (nat_lt column end) h (lt_max column (get_or ends begin 0) end)
    ∙ ap (λ b. reaches ends column || (b && nat_lt column end)) (before_more begin column)

same_test : (a b : Bool) → (a ≡ true → b ≡ true) → (b ≡ true → a ≡ true) → a ≡ b
same_test true true f g = refl
same_test false false f g = refl
same_test true false f g = sym (f refl)
same_test false true f g = g refl

-- an obstacle that lies in other rows isn't met
pub above : (obstacle region : Rect) (block : Block) (y column : ℕ) → obstacle.y + obstacle.h ≤ y
    → meets (rect_at block (corner_in region y column)) obstacle ≡ false
unfolding meets
above obstacle region block y column h = grind (arith, nat_tests, h)

pub below : (obstacle region : Rect) (block : Block) (y column : ℕ) → y + block.h ≤ obstacle.y
    → meets (rect_at block (corner_in region y column)) obstacle ≡ false
unfolding meets
below obstacle region block y column h = grind (arith, nat_tests, h)

-- nor is one that begins behind all columns
pub beyond : (obstacle region : Rect) (block : Block) (y column begin : ℕ)
    → begin ≡ obstacle.x + 1 - (region.x + block.w) → column < begin
    → meets (rect_at block (corner_in region y column)) obstacle ≡ false
unfolding meets
beyond obstacle region block y column begin e h = grind (arith, nat_tests, e, h)

-- an obstacle in the block's rows is met in the columns of a run
pub run_met : (obstacle region : Rect) (block : Block) (y column begin end : ℕ)
    → y < obstacle.y + obstacle.h → obstacle.y < y + block.h
    → begin ≡ obstacle.x + 1 - (region.x + block.w) → end ≡ obstacle.x + obstacle.w - region.x
    → (nat_le begin column && nat_lt column end)
    ≡ meets (rect_at block (corner_in region y column)) obstacle
unfolding meets
run_met obstacle region block y column begin end top bottom b e = grind (arith, nat_tests, top, bottom, b, e)

pub none_more : (ends : List ℕ) (column : ℕ) (met : Bool) → met ≡ false
    → reaches ends column ≡ (reaches ends column || met)
none_more ends column met e = sym (or_false (reaches ends column)) ∙ ap (λ b. reaches ends column || b) (sym e)

-- the noted numbers say whether the block may lie at a corner
pub may_same : (grid : GridFile) (block : Block) (region : Rect) (y column : ℕ) (ends : List ℕ)
    → CoversColumns ends grid.obstacles block region y → column < 1000
    → (is_within (rect_at block (corner_in region y column)) region && not (nat_lt column (get_or ends column 0)))
    ≡ may_lie grid block region (corner_in region y column)
may_same grid block region y column ends covers h =
    ap (λ b. is_within (rect_at block (corner_in region y column)) region && not b) (covers column h)
