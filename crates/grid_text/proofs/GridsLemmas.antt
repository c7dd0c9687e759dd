-- A grid grows line by line.
use Rattle.std.proofs.Common.{◌≡◌, ℕ, ◌+◌, ◌<◌, ◌≤◌, List, [], ◌∷◌, ◌++◌, length, take, refl, sym, ap, ◌∙◌, arith, Some, None, Option, append-nil, filter_map, below_more, false, inr, length-drop}
use Rattle.std.proofs.lemmas.List.{take_all}
use Rattle.std.proofs.lemmas.List.Elements.{filter_map-append}
use Rattle.grid_text.specs.Entries.{Item}
use Rattle.grid_text.specs.Files.{BlamesGridText, IsGridOf, line_fault_at}
use Rattle.grid_text.specs.Grids.{GridFile, NamedRect, area, nothing_read, size_told, block_told, region_told, obstacle_told, told_item, told_in, item_in, last_or, grid_of, grown, with_grid_item, with_line, fault_in, LineBlames}
use Rattle.grid_text.specs.declared.entry.EntrySort.{EntrySort}
use Rattle.grid_text.specs.declared.entry.EntrySort.TheVariants as sort
use Rattle.grid_text.specs.Lines.{lines_in, is_bare}
use Rattle.grid_text.specs.declared.fault.GridFault.{GridFault}
use Rattle.grid_text.specs.declared.fault.GridFault.TheVariants.{At, Memory}
use Rattle.grid_text.specs.declared.grid.Block.{Block}
use Rattle.grid_text.specs.declared.rect.Rect.{Rect}
use Rattle.grid_text.proofs.LinesLemmas.{TakesLine}

abbrev one : {A : Type 0} → Option A → List A
one None = []
one (Some x) = x ∷ []

last_push : {A : Type 0} (none : A) (xs : List A) (x : A) → last_or none (xs ++ x ∷ []) ≡ x
last_push none [] x = refl
last_push none (y ∷ xs) x = last_push y xs x

told_one : {A : Type 0} (o : Option A) (f : List ℕ → Option A) (line : List ℕ) → f line ≡ o
    → filter_map f (line ∷ []) ≡ one o
told_one None f line e = rw e refl
told_one (Some x) f line e = rw e refl

told_more : {A : Type 0} (of : EntrySort → List ℕ → Rect → Option A) (before : List (List ℕ)) (line : List ℕ)
    → told_in of (before ++ line ∷ []) ≡ told_in of before ++ one (told_item of (item_in line))
told_more of before line =
    filter_map-append (λ l. told_item of (item_in l)) before (line ∷ [])
    ∙ ap (λ xs. told_in of before ++ xs) (told_one (told_item of (item_in line)) (λ l. told_item of (item_in l)) line refl)

-- what is told, with one item more
abbrev grid_from : List Rect → List Block → List NamedRect → List Rect → GridFile
grid_from sizes blocks regions obstacles = record {
  width = (last_or (area nothing_read) sizes).w;
  height = (last_or (area nothing_read) sizes).h;
  blocks = blocks;
  regions = regions;
  obstacles = obstacles;
}

grows_by : (sizes : List Rect) (blocks : List Block) (regions : List NamedRect) (obstacles : List Rect) (s : EntrySort)
    (name : List ℕ) (rect : Rect)
    →
    grid_from (sizes ++ one (size_told s name rect)) (blocks ++ one (block_told s name rect))
    (regions ++ one (region_told s name rect)) (obstacles ++ one (obstacle_told s name rect))
    ≡ grown (grid_from sizes blocks regions obstacles) s name rect
grows_by sizes blocks regions obstacles sort.Size name rect =
    rw (last_push (area nothing_read) sizes rect, append-nil blocks, append-nil regions, append-nil obstacles) refl
grows_by sizes blocks regions obstacles sort.Block name rect =
    rw (append-nil sizes, append-nil regions, append-nil obstacles) refl
grows_by sizes blocks regions obstacles sort.Region name rect =
    rw (append-nil sizes, append-nil blocks, append-nil obstacles) refl
grows_by sizes blocks regions obstacles sort.Obstacle name rect =
    rw (append-nil sizes, append-nil blocks, append-nil regions) refl

grows_with : (sizes : List Rect) (blocks : List Block) (regions : List NamedRect) (obstacles : List Rect) (item : Option Item) →
    grid_from (sizes ++ one (told_item size_told item)) (blocks ++ one (told_item block_told item))
    (regions ++ one (told_item region_told item)) (obstacles ++ one (told_item obstacle_told item))
    ≡ with_grid_item (grid_from sizes blocks regions obstacles) item
grows_with sizes blocks regions obstacles None =
    rw (append-nil sizes, append-nil blocks, append-nil regions, append-nil obstacles) refl
grows_with sizes blocks regions obstacles (Some item) =
    grows_by sizes blocks regions obstacles item.sort item.name item.rect

-- the grid of lines with one line more
pub grid_more : (before : List (List ℕ)) (line : List ℕ)
    → grid_of (before ++ line ∷ []) ≡ with_line (grid_of before) line
unfolding grid_of
grid_more before line =
    rw (
      told_more size_told before line,
      told_more block_told before line,
      told_more region_told before line,
      told_more obstacle_told before line,
    )
    (grows_with (told_in size_told before) (told_in block_told before) (told_in region_told before)
    (told_in obstacle_told before) (item_in line))

pub nothing_of : grid_of [] ≡ nothing_read
unfolding grid_of
nothing_of = refl

-- the line that is taken has the fault of its place
pub fault_here : (lines : List (List ℕ)) (k : ℕ) (line : List ℕ) (more : List (List ℕ)) (grid : GridFile)
    → TakesLine lines k line more → grid ≡ grid_of (take k lines)
    → line_fault_at lines k ≡ fault_in grid line
unfolding line_fault_at
fault_here lines k line more grid t g = rw (t.here, g) refl

pub grid_next : (lines : List (List ℕ)) (k : ℕ) (line : List ℕ) (more : List (List ℕ)) (old new : GridFile)
    → TakesLine lines k line more → old ≡ grid_of (take k lines) → new ≡ with_line old line
    → new ≡ grid_of (take (k + 1) lines)
grid_next lines k line more old new t o n =
    n ∙ ap (λ g. with_line g line) o ∙ sym (ap grid_of t.front ∙ grid_more (take k lines) line)

pub blames : (bytes line : List ℕ) (k : ℕ) (more : List (List ℕ)) (grid : GridFile)
    → is_bare bytes ≡ false → ((j : ℕ) → j < k → line_fault_at (lines_in bytes) j ≡ None) →
    TakesLine (lines_in bytes) k line more → grid ≡ grid_of (take k (lines_in bytes)) → (why : GridFault) → LineBlames grid line (k + 1) why
    → BlamesGridText bytes why
blames bytes line k more grid some before t g (At at kind) b =
    inr (record {
      some = some;
      place = k;
      is = b.0;
      within = t.within;
      before = before;
      here = fault_here (lines_in bytes) k line more grid t g ∙ b.1;
    })
blames bytes line k more grid some before t g Memory b = tt

pub right_more : (bytes line : List ℕ) (k : ℕ) (more : List (List ℕ)) (grid : GridFile)
    → ((j : ℕ) → j < k → line_fault_at (lines_in bytes) j ≡ None) →
    TakesLine (lines_in bytes) k line more → grid ≡ grid_of (take k (lines_in bytes)) → fault_in grid line ≡ None → (j : ℕ) → j < k + 1
    → line_fault_at (lines_in bytes) j ≡ None
right_more bytes line k more grid before t g e =
    below_more (λ j. line_fault_at (lines_in bytes) j ≡ None) k before (fault_here (lines_in bytes) k line more grid t g ∙ e)

-- behind the last line the grid is read
pub reads : (bytes line : List ℕ) (k : ℕ) (old new : GridFile) → is_bare bytes ≡ false
    → ((j : ℕ) → j < k → line_fault_at (lines_in bytes) j ≡ None) →
    TakesLine (lines_in bytes) k line [] → old ≡ grid_of (take k (lines_in bytes)) → fault_in old line ≡ None → new ≡ with_line old line
    → IsGridOf bytes new
reads bytes line k old new some before t o e n =
    let long : length (lines_in bytes) ≤ k + 1 = omega (arith, ap length t.back, length-drop (k + 1) (lines_in bytes)) in
    let whole : take (k + 1) (lines_in bytes) ≡ lines_in bytes = take_all (k + 1) (lines_in bytes) long in
    record {
      some = some;
      right = λ j lt. right_more bytes line k [] old before t o e j (omega arith);
      says = grid_next (lines_in bytes) k line [] old new t o n ∙ ap grid_of whole;
    }
