-- What is so of a line without a fault.
use Rattle.std.proofs.Common.{◌≡◌, ℕ, ◌<◌, ◌≤◌, Bool, true, false, not, nat_le, List, Option, Some, None, option_map, if◌then◌else◌, refl, arith}
use Rattle.std.specs.Str.Parse.{digits_value}
use Rattle.std.proofs.lemmas.Bool.{and_parts}
use Rattle.std.proofs.lemmas.Bool.Decides.{nat_tests}
use Rattle.gen_lines.specs.Reply.{fields}
use Rattle.grid_text.specs.Entries.{GridEntry, Item, entry_of, has_numbers, grid_item, most_extent, rect_of}
use Rattle.grid_text.specs.Grids.{GridFile, area, entry_fault, fault_in, found_fault, is_sort_due, is_full, is_inside, is_name_taken, item_in}
use Rattle.grid_text.specs.Lines.{is_passed_over, may_stand_in_line}
use Rattle.grid_text.specs.Numbers.{is_extent, is_short_number}
use Rattle.grid_text.specs.Rects.{HasCells, LiesInLargest, is_within}
use Rattle.grid_text.specs.declared.entry.EntrySort.{EntrySort}
use Rattle.grid_text.specs.declared.entry.EntrySort.TheVariants as sort
use Rattle.grid_text.specs.declared.fault.GridKind.TheVariants.{Form, Number, Outside, Duplicate, TooMany}
use Rattle.grid_text.specs.declared.rect.Rect.{Rect}
use Rattle.grid_text.proofs.RectsLemmas.{corners_told}

-- what is so of what a line says
pub record RightItem (grid : GridFile) (item : Item) : Type 0 where
  pub cells : HasCells item.rect
  pub inside : is_inside grid item.sort item.rect ≡ true

extent_some : (most : ℕ) (field : List ℕ) → is_extent most field ≡ true → 0 < digits_value 10 field
unfolding is_extent
extent_some most field e =
    let p = and_parts _ (nat_le (digits_value 10 field) most) e in
    let q = and_parts (is_short_number field) (nat_le 1 (digits_value 10 field)) p.0 in
    grind (arith, nat_tests, q.1)

numbers_cells : (entry : GridEntry) → has_numbers entry ≡ true → HasCells (rect_of entry)
unfolding has_numbers
numbers_cells entry e =
    let p = and_parts _ (is_extent (most_extent entry.sort) entry.h) e in
    let q = and_parts _ (is_extent (most_extent entry.sort) entry.w) p.0 in
    (extent_some (most_extent entry.sort) entry.w q.1, extent_some (most_extent entry.sort) entry.h p.1)

no_fault_by : (due numbers inside taken full : Bool)
    → (if not due then Some Form else if not numbers then Some Number else if not inside then Some Outside else if taken then Some Duplicate
    else if full then Some TooMany else None)
    ≡ None
    → (numbers ≡ true) × (inside ≡ true)
no_fault_by false numbers inside taken full e = absurd (cc)
no_fault_by true false inside taken full e = absurd (cc)
no_fault_by true true false taken full e = absurd (cc)
no_fault_by true true true taken full e = (refl, refl)

right_entry : (grid : GridFile) (entry : GridEntry) → entry_fault grid entry ≡ None
    → RightItem grid (grid_item entry)
unfolding entry_fault
right_entry grid entry e =
    let p = no_fault_by (is_sort_due grid entry.sort) (has_numbers entry)
    (is_inside grid entry.sort (rect_of entry)) (is_name_taken grid entry.sort entry.name) (is_full grid entry.sort) e in
    record { cells = numbers_cells entry p.0; inside = p.1 }

right_by : (grid : GridFile) (stands passed : Bool) (entry : Option GridEntry) (item : Item)
    → (if not stands then Some Form else if passed then None else found_fault grid entry) ≡ None
    → (if passed then None else option_map grid_item entry) ≡ Some item → RightItem grid item
right_by grid false passed entry item f e = absurd (cc)
right_by grid true true entry item f e = absurd (cc)
right_by grid true false None item f e = absurd (cc)
right_by grid true false (Some entry) item f e =
    let same : grid_item entry ≡ item = cc in
    rw (← same) (right_entry grid entry f)

pub right_item : (grid : GridFile) (line : List ℕ) (item : Item) → fault_in grid line ≡ None
    → item_in line ≡ Some item → RightItem grid item
right_item grid line item f e =
    right_by grid (may_stand_in_line line) (is_passed_over line) (entry_of (fields line)) item f e

stands_by : (grid : GridFile) (stands passed : Bool) (entry : Option GridEntry)
    → (if not stands then Some Form else if passed then None else found_fault grid entry) ≡ None
    → stands ≡ true
stands_by grid false passed entry f = absurd (cc)
stands_by grid true passed entry f = refl

pub right_stands : (grid : GridFile) (line : List ℕ) → fault_in grid line ≡ None
    → may_stand_in_line line ≡ true
right_stands grid line f =
    stands_by grid (may_stand_in_line line) (is_passed_over line) (entry_of (fields line)) f

-- a region in the grid lies in the largest one
pub small_region : (grid : GridFile) (s : EntrySort) (rect : Rect) → is_inside grid s rect ≡ true
    → s ≡ sort.Region → grid.width ≤ 1000 → grid.height ≤ 1000 → LiesInLargest rect
small_region grid s rect inside is wide high =
    let within : is_within rect (area grid) ≡ true = rw is at inside in
    let corners = corners_told rect (area grid) within in
    (omega (arith, corners.right), omega (arith, corners.bottom))
