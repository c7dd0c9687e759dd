-- What is so of a text that is read.
use Rattle.std.proofs.Common.{◌≡◌, ℕ, zero, suc, ◌+◌, ◌-◌, ◌<◌, ◌≤◌, Bool, true, false, ◌==◌, nat_le, nat_lt, List, [], ◌∷◌, ◌++◌, length, map, filter_map, get_or, take, refl, sym, ap, subst, ◌∙◌, arith, Option, Some, None, if◌then◌else◌, slice_index, ◌⊎◌, inl, inr}
use Rattle.std.specs.Io.BufRead.{ends_with_byte, strip_last}
use Rattle.std.specs.List.{All, join_with_byte, list_all, slice_split}
use Rattle.std.specs.Str.{IsAscii}
use Rattle.std.proofs.lemmas.Bool.{and_parts, cases_lt}
use Rattle.std.proofs.lemmas.Bool.Decides.{nat_tests}
use Rattle.std.proofs.lemmas.List.Splits.{join_with_byte-slice_split}
use Rattle.std.proofs.lemmas.List.{get_or-take, get_or_past}
use Rattle.std.proofs.lemmas.Str.{IsAscii-append}
use Rattle.std.proofs.lemmas.Str.Ascii.{IsAscii-nil}
use Rattle.std.proofs.lemmas.List.Elements.{All-cons}
use Rattle.gen_lines.proofs.CuttingLemmas.{parts_left}
use Rattle.gen_lines.specs.Lines.{ended, is_feed, open_part}
use Rattle.grid_text.specs.Entries.{Item}
use Rattle.grid_text.specs.Files.{IsGridOf, line_fault_at}
use Rattle.grid_text.specs.Grids.{GridFile, NamedRect, block_of, block_told, fault_in, grid_of, item_in, obstacle_told, region_of, region_told, told_item, told_in}
use Rattle.grid_text.specs.Laws.{AllHaveCells, ReadHasCells, ReadIsAscii, home_rect}
use Rattle.grid_text.specs.Lines.{lines_in, may_stand, may_stand_in_line}
use Rattle.grid_text.specs.Rects.{HasCells}
use Rattle.grid_text.specs.declared.entry.EntrySort.{EntrySort}
use Rattle.grid_text.specs.declared.entry.EntrySort.TheVariants as sort
use Rattle.grid_text.specs.declared.grid.Block.{Block}
use Rattle.grid_text.specs.declared.rect.Rect.{Rect}
use Rattle.grid_text.proofs.RightLinesLemmas.{right_item, right_stands}

-- a line at a place of a text that is read has no fault
right_at : (bytes : List ℕ) (grid : GridFile) → IsGridOf bytes grid → (k : ℕ)
    → k < length (lines_in bytes)
    → fault_in (grid_of (take k (lines_in bytes))) (get_or (lines_in bytes) k []) ≡ None
unfolding line_fault_at
right_at bytes grid is k h = is.right k h

-- ASCII

stands_ascii : (line : List ℕ) → may_stand_in_line line ≡ true → IsAscii line
stands_ascii [] e i = omega arith
stands_ascii (b ∷ bs) e zero =
    let p = and_parts (may_stand b) (list_all may_stand bs) e in
    let q = and_parts (nat_le 32 b) (nat_le b 126) p.0 in
    grind (arith, nat_tests, q.1)
stands_ascii (b ∷ bs) e (suc i) =
    stands_ascii bs (and_parts (may_stand b) (list_all may_stand bs) e).1 i

last_at : (line : List ℕ) (i : ℕ) → get_or line (length line - 1) 0 ≡ 13 → length line - 1 ≤ i
    → (i < length line) ⊎ (length line ≤ i) → get_or line i 0 < 128
last_at line i last h (inr past) = let none : get_or line i 0 ≡ 0 = get_or_past line i 0 past in omega (arith, none)
last_at line i last h (inl within) =
    let here : i ≡ length line - 1 = omega arith in
    let is : get_or line i 0 ≡ 13 = ap (λ n. get_or line n 0) here ∙ last in
    omega (arith, is)

feed_ascii : (bytes : List ℕ) → IsAscii bytes → IsAscii (10 ∷ bytes)
feed_ascii bytes h zero = omega arith
feed_ascii bytes h (suc i) = h i

-- a byte of a line is one of the line without its carriage return, or that, or stands behind its end
stripped_at : (line : List ℕ) (i : ℕ) → get_or line (length line - 1) 0 ≡ 13
    → IsAscii (take (length line - 1) line) → (i < length line - 1) ⊎ (length line - 1 ≤ i)
    → get_or line i 0 < 128
stripped_at line i last front (inl h) =
    let same : get_or (take (length line - 1) line) i 0 ≡ get_or line i 0 = get_or-take (length line - 1) line i 0 h in
    omega (arith, front i, same)
stripped_at line i last front (inr h) = last_at line i last h (cases_lt i (length line))

stripped_by : (line : List ℕ) (b : Bool) → ends_with_byte 13 line ≡ b
    → IsAscii (if b then take (length line - 1) line else line) → IsAscii line
stripped_by line true e front i =
    let p = and_parts (nat_lt 0 (length line)) (slice_index line (length line - 1) == 13) e in
    let last : get_or line (length line - 1) 0 ≡ 13 = grind (arith, nat_tests, p.1) in
    stripped_at line i last front (cases_lt i (length line - 1))
stripped_by line false e front i = front i

stripped_ascii : (line : List ℕ) → IsAscii (strip_last 13 line) → IsAscii line
stripped_ascii line h = stripped_by line (ends_with_byte 13 line) refl h

joined_ascii : (parts : List (List ℕ)) → All IsAscii parts → IsAscii (join_with_byte 10 parts)
joined_ascii [] each = IsAscii-nil
joined_ascii (part ∷ []) each = each 0 [] (omega arith)
joined_ascii (part ∷ next ∷ parts) each =
    IsAscii-append part (10 ∷ join_with_byte 10 (next ∷ parts)) (each 0 [] (omega arith))
    (feed_ascii (join_with_byte 10 (next ∷ parts)) (joined_ascii (next ∷ parts) (λ k d h. each (suc k) d (omega arith))))

-- parts of which all but the last may have a carriage return more
parts_ascii : (parts : List (List ℕ)) → 0 < length parts
    → ((k : ℕ) → k < length (map (strip_last 13) (ended parts) ++ open_part parts ∷ [])
    → IsAscii (get_or (map (strip_last 13) (ended parts) ++ open_part parts ∷ []) k []))
    → All IsAscii parts
parts_ascii [] some each k d h = absurd (omega arith)
parts_ascii (part ∷ []) some each zero d h = each 0 (omega arith)
parts_ascii (part ∷ []) some each (suc k) d h = absurd (omega arith)
parts_ascii (part ∷ next ∷ parts) some each zero d h = stripped_ascii part (each 0 (omega arith))
parts_ascii (part ∷ next ∷ parts) some each (suc k) d h =
    parts_ascii (next ∷ parts) (omega arith) (λ j g. each (suc j) (omega arith)) k d (omega arith)

pub read_is_ascii : ReadIsAscii
read_is_ascii bytes grid is =
    let each = λ (k : ℕ) (h : k < length (lines_in bytes)).
    stands_ascii (get_or (lines_in bytes) k [])
    (right_stands (grid_of (take k (lines_in bytes))) (get_or (lines_in bytes) k []) (right_at bytes grid is k h)) in
    subst IsAscii (join_with_byte-slice_split 10 bytes)
    (joined_ascii (slice_split is_feed bytes) (parts_ascii (slice_split is_feed bytes) (parts_left bytes) each))

-- Cells

item_cells : (bytes : List ℕ) (grid : GridFile) → IsGridOf bytes grid → (k : ℕ) (item : Item)
    → k < length (lines_in bytes) → item_in (get_or (lines_in bytes) k []) ≡ Some item
    → HasCells item.rect
item_cells bytes grid is k item h e =
    (right_item (grid_of (take k (lines_in bytes))) (get_or (lines_in bytes) k []) item (right_at bytes grid is k h) e).cells

-- what is told by lines of which each tells what is so
pub all_by : {A : Type 0} (P : A → Type 0) (o : Option A) (f : List ℕ → Option A) (line : List ℕ) (lines : List (List ℕ))
    → f line ≡ o → ((x : A) → o ≡ Some x → P x) → All P (filter_map f lines) → All P (filter_map f (line ∷ lines))
all_by P None f line lines e here rest = rw e rest
all_by P (Some x) f line lines e here rest = rw e (All-cons P x (filter_map f lines) (here x refl) rest)

all_told : {A : Type 0} (of : EntrySort → List ℕ → Rect → Option A) (P : A → Type 0)
    → ((item : Option Item) (x : A) → ((i : Item) → item ≡ Some i → HasCells i.rect) → told_item of item ≡ Some x → P x)
    → (lines : List (List ℕ))
    → ((k : ℕ) (item : Item) → k < length lines → item_in (get_or lines k []) ≡ Some item → HasCells item.rect)
    → All P (told_in of lines)
all_told of P each [] right k d h = absurd (omega arith)
all_told of P each (line ∷ lines) right k d h =
    all_by P (told_item of (item_in line)) (λ l. told_item of (item_in l)) line lines refl
    (λ x e. each (item_in line) x (λ i. right 0 i (omega arith)) e)
    (all_told of P each lines (λ j item g. right (suc j) item (omega arith))) k d h

block_cells : (s : EntrySort) (name : List ℕ) (rect : Rect) (x : Block) → HasCells rect
    → block_told s name rect ≡ Some x → HasCells (home_rect x)
block_cells sort.Size name rect x h e = absurd (cc)
block_cells sort.Block name rect x h e =
    let same : block_of name rect ≡ x = cc in
    subst (λ (b : Block). HasCells (home_rect b)) same h
block_cells sort.Region name rect x h e = absurd (cc)
block_cells sort.Obstacle name rect x h e = absurd (cc)

region_cells : (s : EntrySort) (name : List ℕ) (rect : Rect) (x : NamedRect) → HasCells rect
    → region_told s name rect ≡ Some x → HasCells x.rect
region_cells sort.Size name rect x h e = absurd (cc)
region_cells sort.Block name rect x h e = absurd (cc)
region_cells sort.Region name rect x h e =
    let same : region_of name rect ≡ x = cc in
    subst (λ (r : NamedRect). HasCells r.rect) same h
region_cells sort.Obstacle name rect x h e = absurd (cc)

obstacle_cells : (s : EntrySort) (name : List ℕ) (rect : Rect) (x : Rect) → HasCells rect
    → obstacle_told s name rect ≡ Some x → HasCells x
obstacle_cells sort.Size name rect x h e = absurd (cc)
obstacle_cells sort.Block name rect x h e = absurd (cc)
obstacle_cells sort.Region name rect x h e = absurd (cc)
obstacle_cells sort.Obstacle name rect x h e =
    let same : rect ≡ x = cc in
    subst HasCells same h

told_cells : {A : Type 0} (of : EntrySort → List ℕ → Rect → Option A) (P : A → Type 0)
    → ((s : EntrySort) (name : List ℕ) (rect : Rect) (x : A) → HasCells rect → of s name rect ≡ Some x → P x)
    → (item : Option Item) (x : A) → ((i : Item) → item ≡ Some i → HasCells i.rect) → told_item of item ≡ Some x → P x
told_cells of P each None x right e = absurd (cc)
told_cells of P each (Some item) x right e =
    each item.sort item.name item.rect x (right item refl) e

grid_cells : (lines : List (List ℕ))
    → ((k : ℕ) (item : Item) → k < length lines → item_in (get_or lines k []) ≡ Some item → HasCells item.rect)
    → AllHaveCells (grid_of lines)
unfolding grid_of
grid_cells lines right = record {
  blocks = all_told block_told (λ (b : Block). HasCells (home_rect b))
      (told_cells block_told (λ (b : Block). HasCells (home_rect b)) block_cells) lines right;
  regions = all_told region_told (λ (r : NamedRect). HasCells r.rect)
      (told_cells region_told (λ (r : NamedRect). HasCells r.rect) region_cells) lines right;
  obstacles = all_told obstacle_told HasCells (told_cells obstacle_told HasCells obstacle_cells) lines right;
}

pub read_has_cells : ReadHasCells
read_has_cells bytes grid is =
    subst AllHaveCells (sym is.says) (grid_cells (lines_in bytes) (item_cells bytes grid is))
