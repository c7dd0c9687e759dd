-- The poses of a block in a region are those with which it lies there by its cells.
use Rattle.std.proofs.Common.{◌≡◌, ℕ, zero, suc, ◌+◌, ◌-◌, ◌<◌, ◌≤◌, ◌⊎◌, inl, inr, Bool, true, false, List, [], ◌∷◌, ◌++◌, length, map, filter, get_or, refl, sym, ap, subst, ◌∙◌, arith, Contains}
use Rattle.std.specs.List.{flat_map}
use Rattle.std.proofs.lemmas.Bool.{cases_lt, false_from_ne_true}
use Rattle.std.proofs.lemmas.List.Elements.{All-contains, Contains-append_left, Contains-append_right, Contains-get_or}
use Rattle.std.proofs.lemmas.List.Folds.{list_any_at, list_any_none}
use Rattle.lemmas.specs.Lists.{numbers_from}
use Rattle.lemmas.proofs.Bools.{and_not_parts, not_both}
use Rattle.grid_text.specs.Grids.{GridFile}
use Rattle.grid_text.specs.Laws.{AllHaveCells, home_rect}
use Rattle.grid_text.specs.Rects.{HasCells, is_within, meets}
use Rattle.grid_text.specs.declared.grid.Block.{Block}
use Rattle.grid_text.specs.declared.rect.Rect.{Rect}
use Rattle.grid_text.proofs.FilesLemmas.{read_has_cells}
use Rattle.grid_text.proofs.RectsLemmas.{meeting_is_by_cells, within_is_by_cells}
use Rattle.grid_world.specs.Answers.{corners, is_blocked, may_lie, pose_answer, row_corners}
use Rattle.grid_world.specs.Laws.{LiesFree, PlacesAreByCells}
use Rattle.grid_world.specs.Words.{rect_at}
use Rattle.grid_world.specs.declared.answer.GridAnswer.{GridAnswer}
use Rattle.grid_world.specs.declared.words.Corner.{Corner}
use Rattle.grid_world.proofs.PlacesLemmas.{filter_bad, filter_good}
use Rattle.lemmas.proofs.Ascending.{contains_later}

-- Members

abbrev poses : (Corner → Bool) → List Corner → List GridAnswer
poses p cs = map pose_answer (filter p cs)

poses_more : (p : Corner → Bool) (d : Corner) (cs : List Corner) (a : GridAnswer) (b : Bool) → p d ≡ b
    → Contains (poses p cs) a → Contains (poses p (d ∷ cs)) a
poses_more p d cs a true e c =
    subst (λ ds. Contains (map pose_answer ds) a) (sym (filter_good p d cs e)) (contains_later (pose_answer d) (poses p cs) a c)
poses_more p d cs a false e c = subst (λ ds. Contains (map pose_answer ds) a) (sym (filter_bad p d cs e)) c

-- a corner that passes is told
poses_have : (p : Corner → Bool) (cs : List Corner) (c : Corner) (k : ℕ) → k < length cs
    → get_or cs k c ≡ c → p c ≡ true → Contains (poses p cs) (pose_answer c)
poses_have p [] c k h e pass = absurd (omega arith)
poses_have p (d ∷ cs) c zero h e pass =
    let good : p d ≡ true = ap p e ∙ pass in
    subst (λ ds. Contains (map pose_answer ds) (pose_answer c)) (sym (filter_good p d cs good)) (0, omega arith, ap pose_answer e)
poses_have p (d ∷ cs) c (suc k) h e pass =
    poses_more p d cs (pose_answer c) (p d) refl (poses_have p cs c k (omega arith) e pass)

corner_same : (c d : Corner) → pose_answer d ≡ pose_answer c → d ≡ c
corner_same c d e =
    let x : d.x ≡ c.x = cc in
    let y : d.y ≡ c.y = cc in
    let one : d ≡ record { x = c.x; y = d.y } = ap (λ (n : ℕ). record { x = n; y = d.y }) x in
    one ∙ ap (λ (n : ℕ). record { x = c.x; y = n }) y

-- a corner that is told passes
poses_only_by : (p : Corner → Bool) (cs : List Corner) (c d : Corner) (k : ℕ) → p d ≡ true
    → ((j : ℕ) → j < length (poses p cs) → get_or (poses p cs) j (pose_answer c) ≡ pose_answer c → p c ≡ true)
    → k < length (pose_answer d ∷ poses p cs) → get_or (pose_answer d ∷ poses p cs) k (pose_answer c) ≡ pose_answer c
    → p c ≡ true
poses_only_by p cs c d zero good rest h e = ap p (sym (corner_same c d e)) ∙ good
poses_only_by p cs c d (suc k) good rest h e = rest k (omega arith) e

poses_only_at : (p : Corner → Bool) (cs : List Corner) (c d : Corner) (b : Bool) (k : ℕ) → p d ≡ b
    → ((j : ℕ) → j < length (poses p cs) → get_or (poses p cs) j (pose_answer c) ≡ pose_answer c → p c ≡ true)
    → k < length (poses p (d ∷ cs)) → get_or (poses p (d ∷ cs)) k (pose_answer c) ≡ pose_answer c → p c ≡ true
poses_only_at p cs c d true k good rest h e =
    let same = filter_good p d cs good in
    poses_only_by p cs c d k good rest (subst (λ ds. k < length (map pose_answer ds)) same h)
    (subst (λ ds. get_or (map pose_answer ds) k (pose_answer c) ≡ pose_answer c) same e)
poses_only_at p cs c d false k bad rest h e =
    let same = filter_bad p d cs bad in
    rest k (subst (λ ds. k < length (map pose_answer ds)) same h)
    (subst (λ ds. get_or (map pose_answer ds) k (pose_answer c) ≡ pose_answer c) same e)

poses_only : (p : Corner → Bool) (cs : List Corner) (c : Corner) (k : ℕ) → k < length (poses p cs)
    → get_or (poses p cs) k (pose_answer c) ≡ pose_answer c → p c ≡ true
poses_only p [] c k h e = absurd (omega arith)
poses_only p (d ∷ cs) c k h e = poses_only_at p cs c d (p d) k refl (λ j g f. poses_only p cs c j g f) h e

-- Corners of a region

column_by : (x w y : ℕ) (c : Corner) → (c.x < x + 1) ⊎ (x + 1 ≤ c.x) → y ≡ c.y → x ≤ c.x
    → (x + 1 ≤ c.x → Contains (row_corners (x + 1) w y) c)
    → Contains (record { x = x; y = y } ∷ row_corners (x + 1) w y) c
column_by x w y c (inl lt) e low rest =
    let here : x ≡ c.x = omega arith in
    let one : record { x = x; y = y } ≡ record { x = c.x; y = y } = ap (λ (n : ℕ). record { x = n; y = y }) here in
    (0, omega arith, one ∙ ap (λ (n : ℕ). record { x = c.x; y = n }) e)
column_by x w y c (inr le) e low rest = contains_later (record { x = x; y = y }) (row_corners (x + 1) w y) c (rest le)

has_column : (x w y : ℕ) (c : Corner) → y ≡ c.y → x ≤ c.x → c.x < x + w → Contains (row_corners x w y) c
has_column x zero y c e low high = absurd (omega arith)
has_column x (suc w) y c e low high =
    column_by x w y c (cases_lt c.x (x + 1)) e low (λ le. has_column (x + 1) w y c e le (omega arith))

row_by : (x w first : ℕ) (rows : List Corner) (c : Corner) → (c.y < first + 1) ⊎ (first + 1 ≤ c.y)
    → first ≤ c.y → x ≤ c.x → c.x < x + w → (first + 1 ≤ c.y → Contains rows c)
    → Contains (row_corners x w first ++ rows) c
row_by x w first rows c (inl lt) low left right rest =
    let here : first ≡ c.y = omega arith in
    Contains-append_left (row_corners x w first) rows c (has_column x w first c here left right)
row_by x w first rows c (inr le) low left right rest = Contains-append_right (row_corners x w first) rows c (rest le)

has_corner : (x w first n : ℕ) (c : Corner) → x ≤ c.x → c.x < x + w → first ≤ c.y → c.y < first + n
    → Contains (flat_map (row_corners x w) (numbers_from first n)) c
has_corner x w first zero c left right low high = absurd (omega arith)
has_corner x w first (suc n) c left right low high =
    row_by x w first (flat_map (row_corners x w) (numbers_from (first + 1) n)) c (cases_lt c.y (first + 1)) low left right
    (λ le. has_corner x w (first + 1) n c left right le (omega arith))

-- Cells

lies_free : (grid : GridFile) (block : Block) (region : Rect) (corner : Corner) → HasCells (rect_at block corner)
    → AllHaveCells grid → may_lie grid block region corner ≡ true → LiesFree grid block region corner
lies_free grid block region corner cells all may =
    let rect = rect_at block corner in
    let parts = and_not_parts (is_within rect region) (is_blocked grid rect) may in
    record {
      within = (within_is_by_cells rect region cells).0 parts.0;
      free = λ obstacle has cell i j.
          let met : meets rect obstacle ≡ true =
          (meeting_is_by_cells rect obstacle cells (All-contains HasCells grid.obstacles obstacle all.obstacles has)).1 (cell, i, j) in
          let some : is_blocked grid rect ≡ true =
          list_any_at (λ o. meets rect o) grid.obstacles has.0 obstacle has.1 (ap (λ o. meets rect o) has.2 ∙ met) in
          not_both (is_blocked grid rect) some parts.1;
    }

may_free : (grid : GridFile) (block : Block) (region : Rect) (corner : Corner) → HasCells (rect_at block corner)
    → AllHaveCells grid → LiesFree grid block region corner → may_lie grid block region corner ≡ true
may_free grid block region corner cells all free =
    let rect = rect_at block corner in
    let within : is_within rect region ≡ true = (within_is_by_cells rect region cells).1 free.within in
    let open_by = λ (k : ℕ) (d : Rect) (h : k < length grid.obstacles). false_from_ne_true (meets rect (get_or grid.obstacles k d)) (λ met.
    let both = (meeting_is_by_cells rect (get_or grid.obstacles k d) cells (all.obstacles k d h)).0 met in
    free.free (get_or grid.obstacles k d) (Contains-get_or grid.obstacles k d h) both.0 both.1 both.2) in
    let clear : is_blocked grid rect ≡ false = list_any_none (λ o. meets rect o) grid.obstacles open_by in
    rw (within, clear) refl

pub places_are_by_cells : PlacesAreByCells
places_are_by_cells bytes grid is block region has_block has_region corner =
    let all = read_has_cells bytes grid is in
    let cells : HasCells (rect_at block corner) =
    All-contains (λ (b : Block). HasCells (home_rect b)) grid.blocks block all.blocks has_block in
    let p = may_lie grid block region.rect in (
      λ c. lies_free grid block region.rect corner cells all (poses_only p (corners region.rect) corner c.0 c.1 c.2),
      λ free.
          let first =
          free.within (record { x = corner.x; y = corner.y })
          (record { column = (omega arith, omega (arith, cells.0)); row = (omega arith, omega (arith, cells.1)) }) in
          let at = has_corner region.rect.x region.rect.w region.rect.y region.rect.h corner first.column.0 first.column.1 first.row.0
          first.row.1 in
          poses_have p (corners region.rect) corner at.0 at.1 at.2 (may_free grid block region.rect corner cells all free),
    )
