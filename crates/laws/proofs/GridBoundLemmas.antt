-- The numbers of a grid that is read are small.
use Rattle.std.proofs.Common.{◌≡◌, ℕ, suc, ◌<◌, ◌≤◌, ◌^◌, Bool, true, false, not, nat_le, nat_lt, List, [], ◌∷◌, codes, get_or, length, take, Option, None, Some, option_map, if◌then◌else◌, IfSome, refl, sym, subst, arith}
use Rattle.std.proofs.lemmas.Bool.{and_parts}
use Rattle.std.proofs.lemmas.Bool.Decides.{nat_tests}
use Rattle.std.proofs.lemmas.Str.Parse.{digits_value_short}
use Rattle.std.specs.Char.{is_ascii_digit}
use Rattle.std.specs.List.{All, list_all}
use Rattle.std.specs.Str.{bytes_eq}
use Rattle.std.specs.Str.Parse.{digits_value}
use Rattle.gen_lines.specs.Reply.{fields, is_filled}
use Rattle.grid_text.specs.Entries.{GridEntry, Item, block_entry, entry_of, entry_sort, four_of, grid_item, has_numbers, most_extent, obstacle_of, rect_of, region_entry, size_entry}
use Rattle.grid_text.specs.Files.{IsGridOf, line_fault_at}
use Rattle.grid_text.specs.Grids.{GridFile, NamedRect, area, entry_fault, fault_in, found_fault, grid_of, is_full, is_inside, is_name_taken, is_sort_due, item_in, last_or, nothing_read, region_of, region_told, size_told, told_item, told_in}
use Rattle.grid_text.specs.Lines.{is_passed_over, lines_in, may_stand_in_line}
use Rattle.grid_text.specs.Numbers.{is_decimal, is_extent, is_short_number}
use Rattle.grid_text.specs.declared.fault.GridKind.TheVariants.{Form, Number, Outside, Duplicate, TooMany}
use Rattle.grid_text.specs.declared.rect.Rect.{Rect}
use Rattle.lemmas.proofs.Digits.{own}
use Rattle.task_model.specs.Fit.{is_name}
use Rattle.grid_text.proofs.FilesLemmas.{all_by}

-- The numbers have at most four digits.
pub record IsSmall (r : Rect) : Type 0 where
  pub x : r.x ≤ 9999
  pub y : r.y ≤ 9999
  pub w : r.w ≤ 9999
  pub h : r.h ≤ 9999

-- ---- one line

short_small : (field : List ℕ) → is_short_number field ≡ true → digits_value 10 field ≤ 9999
unfolding is_short_number is_decimal
short_small field e =
    let p = and_parts _ (nat_le (length field) 4) e in
    let q = and_parts _ (nat_lt (digits_value 10 field) (2 ^ 32)) p.0 in
    let digits = (and_parts (is_filled field) (list_all is_ascii_digit field) q.0).1 in
    let short : length field ≤ 4 = grind (arith, nat_tests, p.1) in
    omega (arith, digits_value_short own field 4 digits short)

extent_small : (most : ℕ) (field : List ℕ) → is_extent most field ≡ true → digits_value 10 field ≤ 9999
unfolding is_extent
extent_small most field e =
    let p = and_parts _ (nat_le (digits_value 10 field) most) e in
    short_small field (and_parts (is_short_number field) (nat_le 1 (digits_value 10 field)) p.0).0

entry_small : (entry : GridEntry) → has_numbers entry ≡ true → IsSmall (rect_of entry)
unfolding has_numbers
entry_small entry e =
    let most = most_extent entry.sort in
    let p = and_parts _ (is_extent most entry.h) e in
    let q = and_parts _ (is_extent most entry.w) p.0 in
    let r = and_parts (is_short_number entry.x) (is_short_number entry.y) q.0 in
    record {
      x = short_small entry.x r.0;
      y = short_small entry.y r.1;
      w = extent_small most entry.w q.1;
      h = extent_small most entry.h p.1;
    }

numbered_by : (due numbers inside taken full : Bool)
    → (if not due then Some Form else if not numbers then Some Number else if not inside then Some Outside else if taken then Some Duplicate
    else if full then Some TooMany else None)
    ≡ None
    → numbers ≡ true
numbered_by false numbers inside taken full e = absurd (cc)
numbered_by true false inside taken full e = absurd (cc)
numbered_by true true inside taken full e = refl

numbered : (grid : GridFile) (entry : GridEntry) → entry_fault grid entry ≡ None → IsSmall (rect_of entry)
unfolding entry_fault
numbered grid entry e =
    entry_small entry
    (numbered_by (is_sort_due grid entry.sort) (has_numbers entry) (is_inside grid entry.sort (rect_of entry))
    (is_name_taken grid entry.sort entry.name) (is_full grid entry.sort) e)

-- ---- what an entry tells

-- The size and the region that the entry tells, if it does, are small where its numbers are.
record TellsSmall (entry : GridEntry) : Type 0 where
  size : (size : Rect) → size_told entry.sort entry.name (rect_of entry) ≡ Some size → IsSmall (rect_of entry) → IsSmall size
  region : (region : NamedRect) → region_told entry.sort entry.name (rect_of entry) ≡ Some region → IsSmall (rect_of entry)
      → IsSmall region.rect

same_size : (rect size : Rect) → Some rect ≡ Some size → IsSmall rect → IsSmall size
same_size rect size e small =
    let same : rect ≡ size = cc in
    subst IsSmall same small

same_region : (name : List ℕ) (rect : Rect) (region : NamedRect) → Some (region_of name rect) ≡ Some region → IsSmall rect
    → IsSmall region.rect
same_region name rect region e small =
    let same : region_of name rect ≡ region = cc in
    subst (λ (r : NamedRect). IsSmall r.rect) same small

sizes_tell : (given : List (List ℕ)) → IfSome (size_entry given) TellsSmall
sizes_tell [] = tt
sizes_tell (w ∷ []) = tt
sizes_tell (w ∷ h ∷ []) = record { size = λ size e small. same_size _ size e small; region = λ region e small. absurd (cc) }
sizes_tell (w ∷ h ∷ next ∷ more) = tt

blocks_tell : (given : List (List ℕ)) → IfSome (block_entry given) TellsSmall
blocks_tell [] = tt
blocks_tell (name ∷ given) = by (is_name name) refl (four_of given) refl
  where
    by : (b : Bool) → is_name name ≡ b → (o : Option (List ℕ × List ℕ × List ℕ × List ℕ)) → four_of given ≡ o
        → IfSome (block_entry (name ∷ given)) TellsSmall
    by false named o are = rw named tt
    by true named None are = rw (named, are) tt
    by true named (Some f) are = rw (named, are) (record { size = λ size e small. absurd (cc); region = λ region e small. absurd (cc) })

regions_tell : (given : List (List ℕ)) → IfSome (region_entry given) TellsSmall
regions_tell [] = tt
regions_tell (name ∷ given) = by (is_name name) refl (four_of given) refl
  where
    by : (b : Bool) → is_name name ≡ b → (o : Option (List ℕ × List ℕ × List ℕ × List ℕ)) → four_of given ≡ o
        → IfSome (region_entry (name ∷ given)) TellsSmall
    by false named o are = rw named tt
    by true named None are = rw (named, are) tt
    by true named (Some f) are =
        rw (named, are)
        (record { size = λ size e small. absurd (cc); region = λ region e small. same_region name _ region e small })

obstacles_tell : (given : List (List ℕ)) → IfSome (obstacle_of given) TellsSmall
obstacles_tell given = by (four_of given) refl
  where
    by : (o : Option (List ℕ × List ℕ × List ℕ × List ℕ)) → four_of given ≡ o → IfSome (obstacle_of given) TellsSmall
    by None are = rw are tt
    by (Some f) are = rw are (record { size = λ size e small. absurd (cc); region = λ region e small. absurd (cc) })

word_tells : (word : List ℕ) (given : List (List ℕ)) → IfSome (entry_of (word ∷ given)) TellsSmall
unfolding entry_sort
word_tells word given =
    by (bytes_eq word (codes "grid")) (bytes_eq word (codes "block")) (bytes_eq word (codes "region")) (bytes_eq word (codes "obstacle"))
    refl refl refl refl
  where
    by : (a b c d : Bool) → bytes_eq word (codes "grid") ≡ a → bytes_eq word (codes "block") ≡ b → bytes_eq word (codes "region") ≡ c
        → bytes_eq word (codes "obstacle") ≡ d → IfSome (entry_of (word ∷ given)) TellsSmall
    by true b c d p q r s = rw p (sizes_tell given)
    by false true c d p q r s = rw (p, q) (blocks_tell given)
    by false false true d p q r s = rw (p, q, r) (regions_tell given)
    by false false false true p q r s = rw (p, q, r, s) (obstacles_tell given)
    by false false false false p q r s = rw (p, q, r, s) tt

entry_tells : (given : List (List ℕ)) → IfSome (entry_of given) TellsSmall
entry_tells [] = tt
entry_tells (word ∷ given) = word_tells word given

-- The size and the region that a line tells, if it does, are small.
record LineSmall (o : Option Item) : Type 0 where
  size : (size : Rect) → told_item size_told o ≡ Some size → IsSmall size
  region : (region : NamedRect) → told_item region_told o ≡ Some region → IsSmall region.rect

line_by : (grid : GridFile) (stands passed : Bool) (entry : Option GridEntry) → IfSome entry TellsSmall
    → (if not stands then Some Form else if passed then None else found_fault grid entry) ≡ None
    → LineSmall (if passed then None else option_map grid_item entry)
line_by grid false passed entry tells f = absurd (cc)
line_by grid true true entry tells f = record { size = λ size e. absurd (cc); region = λ region e. absurd (cc) }
line_by grid true false None tells f = absurd (cc)
line_by grid true false (Some entry) tells f =
    let small = numbered grid entry f in
    record { size = λ size e. tells.size size e small; region = λ region e. tells.region region e small }

line_small : (grid : GridFile) (line : List ℕ) → fault_in grid line ≡ None → LineSmall (item_in line)
line_small grid line f =
    line_by grid (may_stand_in_line line) (is_passed_over line) (entry_of (fields line)) (entry_tells (fields line)) f

-- ---- all lines

-- what these lines tell is small
AreSmall : List (List ℕ) → Type 0
AreSmall lines = (k : ℕ) → k < length lines → LineSmall (item_in (get_or lines k []))

lines_small : (bytes : List ℕ) (grid : GridFile) → IsGridOf bytes grid → AreSmall (lines_in bytes)
unfolding AreSmall line_fault_at
lines_small bytes grid is k within =
    line_small (grid_of (take k (lines_in bytes))) (get_or (lines_in bytes) k []) (is.right k within)

first_small : (line : List ℕ) (lines : List (List ℕ)) → AreSmall (line ∷ lines) → LineSmall (item_in line)
unfolding AreSmall
first_small line lines all = all 0 (omega arith)

later_small : (line : List ℕ) (lines : List (List ℕ)) → AreSmall (line ∷ lines) → AreSmall lines
unfolding AreSmall
later_small line lines all k within = all (suc k) (omega arith)

sizes_small : (lines : List (List ℕ)) → AreSmall lines → All IsSmall (told_in size_told lines)
sizes_small [] small = λ k d within. absurd (omega arith)
sizes_small (line ∷ lines) small =
    all_by IsSmall (told_item size_told (item_in line)) (λ l. told_item size_told (item_in l)) line lines refl
    (first_small line lines small).size (sizes_small lines (later_small line lines small))

regions_small : (lines : List (List ℕ)) → AreSmall lines → All (λ (r : NamedRect). IsSmall r.rect) (told_in region_told lines)
regions_small [] small = λ k d within. absurd (omega arith)
regions_small (line ∷ lines) small =
    all_by (λ (r : NamedRect). IsSmall r.rect) (told_item region_told (item_in line)) (λ l. told_item region_told (item_in l)) line lines refl
    (first_small line lines small).region (regions_small lines (later_small line lines small))

last_all : {A : Type 0} (P : A → Type 0) (none : A) (xs : List A) → P none → All P xs → P (last_or none xs)
last_all P none [] p all = p
last_all P none (x ∷ xs) p all = last_all P x xs (all 0 x (omega arith)) (λ k d within. all (suc k) d (omega arith))

-- the extents and the regions of a grid are small
pub record IsSmallGrid (grid : GridFile) : Type 0 where
  pub width : grid.width ≤ 9999
  pub height : grid.height ≤ 9999
  pub regions : All (λ (r : NamedRect). IsSmall r.rect) grid.regions

grid_small : (lines : List (List ℕ)) → AreSmall lines → IsSmallGrid (grid_of lines)
unfolding grid_of
grid_small lines small =
    let none : IsSmall (area nothing_read) = record { x = omega arith; y = omega arith; w = omega arith; h = omega arith } in
    let size = last_all IsSmall (area nothing_read) (told_in size_told lines) none (sizes_small lines small) in
    record { width = size.w; height = size.h; regions = regions_small lines small }

pub read_is_small : (bytes : List ℕ) (grid : GridFile) → IsGridOf bytes grid → IsSmallGrid grid
read_is_small bytes grid is = subst IsSmallGrid (sym is.says) (grid_small (lines_in bytes) (lines_small bytes grid is))
