-- What lines of a grid file say so far, and what is wrong with a line behind them.
use Rattle.std.specs.Prelude.{◌≡◌, ℕ, Bool, true, false, not, ◌==◌, nat_le, List, [], ◌∷◌, ◌++◌, length, Option, Some, None, option_map, filter_map, if◌then◌else◌}
use Rattle.std.specs.List.{list_any}
use Rattle.std.specs.Str.{bytes_eq}
use Rattle.gen_lines.specs.Reply.{fields}
use Rattle.grid_text.specs.Entries.{GridEntry, Item, entry_of, has_numbers, grid_item, rect_of}
use Rattle.grid_text.specs.Lines.{is_passed_over, may_stand_in_line}
use Rattle.grid_text.specs.Rects.{is_within}
use Rattle.grid_text.specs.declared.entry.EntrySort.{EntrySort}
use Rattle.grid_text.specs.declared.entry.EntrySort.TheVariants as sort
use Rattle.grid_text.specs.declared.fault.GridFault.{GridFault}
use Rattle.grid_text.specs.declared.fault.GridFault.TheVariants.{At, Memory}
use Rattle.grid_text.specs.declared.fault.GridKind.{GridKind}
use Rattle.grid_text.specs.declared.fault.GridKind.TheVariants.{Form, Number, Outside, Duplicate, TooMany}
use Rattle.grid_text.specs.declared.grid.Block.{Block}
use Rattle.grid_text.specs.declared.rect.Rect.{Rect}

-- a region
pub record NamedRect : Type 0 where
  pub name : List ℕ
  pub rect : Rect

-- a grid: its size, and the rest in the order of the file; before the line of its size it is 0 by 0
pub record GridFile : Type 0 where
  pub width : ℕ
  pub height : ℕ
  pub blocks : List Block
  pub regions : List NamedRect
  pub obstacles : List Rect

abbrev pub nothing_read : GridFile
nothing_read = record { width = 0; height = 0; blocks = []; regions = []; obstacles = [] }

-- all cells
abbrev pub area : GridFile → Rect
area grid = record { x = 0; y = 0; w = grid.width; h = grid.height }

-- What lines say

abbrev pub block_of : List ℕ → Rect → Block
block_of name rect = record { name = name; w = rect.w; h = rect.h; x = rect.x; y = rect.y }

abbrev pub region_of : List ℕ → Rect → NamedRect
region_of name rect = record { name = name; rect = rect }

-- what a line says, which is nothing where it is passed over
abbrev pub item_in : List ℕ → Option Item
item_in line = if is_passed_over line then None else option_map grid_item (entry_of (fields line))

-- the size, the block, the region or the obstacle that a line tells, if it is of that sort
abbrev pub size_told : EntrySort → List ℕ → Rect → Option Rect
size_told sort.Size name rect = Some rect
size_told sort.Block name rect = None
size_told sort.Region name rect = None
size_told sort.Obstacle name rect = None

abbrev pub block_told : EntrySort → List ℕ → Rect → Option Block
block_told sort.Size name rect = None
block_told sort.Block name rect = Some (block_of name rect)
block_told sort.Region name rect = None
block_told sort.Obstacle name rect = None

abbrev pub region_told : EntrySort → List ℕ → Rect → Option NamedRect
region_told sort.Size name rect = None
region_told sort.Block name rect = None
region_told sort.Region name rect = Some (region_of name rect)
region_told sort.Obstacle name rect = None

abbrev pub obstacle_told : EntrySort → List ℕ → Rect → Option Rect
obstacle_told sort.Size name rect = None
obstacle_told sort.Block name rect = None
obstacle_told sort.Region name rect = None
obstacle_told sort.Obstacle name rect = Some rect

-- what a line tells of a sort
abbrev pub told_item : {A : Type 0} → (EntrySort → List ℕ → Rect → Option A) → Option Item → Option A
told_item of None = None
told_item of (Some item) = of item.sort item.name item.rect

abbrev pub told_in : {A : Type 0} → (EntrySort → List ℕ → Rect → Option A) → List (List ℕ) → List A
told_in of lines = filter_map (λ line. told_item of (item_in line)) lines

-- the last member, or this where there is none
abbrev pub last_or : {A : Type 0} → A → List A → A
last_or none [] = none
last_or none (x ∷ xs) = last_or x xs

-- The grid of these lines. Where they have no fault, one of them tells the size.
unfoldable pub grid_of : List (List ℕ) → GridFile
grid_of lines = record {
  width = (last_or (area nothing_read) (told_in size_told lines)).w;
  height = (last_or (area nothing_read) (told_in size_told lines)).h;
  blocks = told_in block_told lines;
  regions = told_in region_told lines;
  obstacles = told_in obstacle_told lines;
}

-- the grid with one line more
abbrev pub grown : GridFile → EntrySort → List ℕ → Rect → GridFile
grown grid sort.Size name rect = record grid { width = rect.w; height = rect.h }
grown grid sort.Block name rect = record grid { blocks = grid.blocks ++ block_of name rect ∷ [] }
grown grid sort.Region name rect =
    record grid { regions = grid.regions ++ region_of name rect ∷ [] }
grown grid sort.Obstacle name rect = record grid { obstacles = grid.obstacles ++ rect ∷ [] }

abbrev pub with_grid_item : GridFile → Option Item → GridFile
with_grid_item grid None = grid
with_grid_item grid (Some item) = grown grid item.sort item.name item.rect

abbrev pub with_line : GridFile → List ℕ → GridFile
with_line grid line = with_grid_item grid (item_in line)

-- Faults of a line behind lines that say this grid

-- the size comes first, and once
abbrev pub is_sort_due : GridFile → EntrySort → Bool
is_sort_due grid sort.Size = grid.width == 0
is_sort_due grid sort.Block = not (grid.width == 0)
is_sort_due grid sort.Region = not (grid.width == 0)
is_sort_due grid sort.Obstacle = not (grid.width == 0)

-- the rectangle lies in the grid
abbrev pub is_inside : GridFile → EntrySort → Rect → Bool
is_inside grid sort.Size rect = true
is_inside grid sort.Block rect = is_within rect (area grid)
is_inside grid sort.Region rect = is_within rect (area grid)
is_inside grid sort.Obstacle rect = is_within rect (area grid)

-- another line of the sort has the name
abbrev pub is_name_taken : GridFile → EntrySort → List ℕ → Bool
is_name_taken grid sort.Size name = false
is_name_taken grid sort.Block name = list_any (λ (b : Block). bytes_eq b.name name) grid.blocks
is_name_taken grid sort.Region name = list_any (λ (r : NamedRect). bytes_eq r.name name) grid.regions
is_name_taken grid sort.Obstacle name = false

-- there are as many of the sort as there may be
abbrev pub is_full : GridFile → EntrySort → Bool
is_full grid sort.Size = false
is_full grid sort.Block = nat_le 100 (length grid.blocks)
is_full grid sort.Region = nat_le 100 (length grid.regions)
is_full grid sort.Obstacle = nat_le 1000 (length grid.obstacles)

-- the first fault of a line whose words are right
unfoldable pub entry_fault : GridFile → GridEntry → Option GridKind
entry_fault grid entry =
    if not (is_sort_due grid entry.sort) then Some Form else
    if not (has_numbers entry) then Some Number else
    if not (is_inside grid entry.sort (rect_of entry)) then Some Outside else
    if is_name_taken grid entry.sort entry.name then Some Duplicate else
    if is_full grid entry.sort then Some TooMany else None

abbrev pub found_fault : GridFile → Option GridEntry → Option GridKind
found_fault grid None = Some Form
found_fault grid (Some entry) = entry_fault grid entry

-- The first fault of a line. A line that is passed over may only have bytes that can't stand.
abbrev pub fault_in : GridFile → List ℕ → Option GridKind
fault_in grid line =
    if not (may_stand_in_line line) then Some Form else
    if is_passed_over line then None else found_fault grid (entry_of (fields line))

-- the fault has the line's number and its first kind
abbrev pub LineBlames : GridFile → List ℕ → ℕ → GridFault → Type 0
LineBlames grid line number (At at kind) = (at ≡ number) × (fault_in grid line ≡ Some kind)
LineBlames grid line number Memory = Unit {0}
