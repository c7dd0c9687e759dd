-- What a line of a grid file says.
use Rattle.std.specs.Prelude.{ℕ, Bool, ◌&&◌, List, [], ◌∷◌, codes, Option, Some, None, option_map, if◌then◌else◌}
use Rattle.std.specs.Str.{bytes_eq}
use Rattle.std.specs.Str.Parse.{digits_value}
use Rattle.task_model.specs.Fit.{is_name}
use Rattle.grid_text.specs.Numbers.{is_short_number, is_extent}
use Rattle.grid_text.specs.declared.entry.EntrySort.{EntrySort}
use Rattle.grid_text.specs.declared.entry.EntrySort.TheVariants.{Size, Block, Region, Obstacle}
use Rattle.grid_text.specs.declared.rect.Rect.{Rect}

-- The words of a line by what they mean. A line `grid W H` is about the rectangle of the whole grid, at 0, 0.
pub record GridEntry : Type 0 where
  pub sort : EntrySort
  pub name : List ℕ
  pub x : List ℕ
  pub y : List ℕ
  pub w : List ℕ
  pub h : List ℕ

-- by a line's first word
unfoldable pub entry_sort : List ℕ → Option EntrySort
entry_sort word =
    if bytes_eq word (codes "grid") then Some Size else
    if bytes_eq word (codes "block") then Some Block else
    if bytes_eq word (codes "region") then Some Region else
    if bytes_eq word (codes "obstacle") then Some Obstacle else None

-- four fields and nothing more
abbrev pub four_of : List (List ℕ) → Option (List ℕ × List ℕ × List ℕ × List ℕ)
four_of [] = None
four_of (a ∷ []) = None
four_of (a ∷ b ∷ []) = None
four_of (a ∷ b ∷ c ∷ []) = None
four_of (a ∷ b ∷ c ∷ d ∷ []) = Some (a, b, c, d)
four_of (a ∷ b ∷ c ∷ d ∷ e ∷ more) = None

-- `W H`
abbrev pub size_entry : List (List ℕ) → Option GridEntry
size_entry [] = None
size_entry (w ∷ []) = None
size_entry (w ∷ h ∷ []) =
    Some (record { sort = Size; name = []; x = codes "0"; y = codes "0"; w = w; h = h })
size_entry (w ∷ h ∷ next ∷ more) = None

-- `NAME w h x y`
abbrev pub block_entry : List (List ℕ) → Option GridEntry
block_entry [] = None
block_entry (name ∷ given) =
    if is_name name
    then option_map (λ f. record { sort = Block; name = name; x = f.2; y = f.3; w = f.0; h = f.1 }) (four_of given)
    else None

-- `NAME x y w h`
abbrev pub region_entry : List (List ℕ) → Option GridEntry
region_entry [] = None
region_entry (name ∷ given) =
    if is_name name
    then option_map (λ f. record { sort = Region; name = name; x = f.0; y = f.1; w = f.2; h = f.3 }) (four_of given)
    else None

-- `x y w h`
abbrev pub obstacle_of : List (List ℕ) → Option GridEntry
obstacle_of given =
    option_map (λ f. record { sort = Obstacle; name = []; x = f.0; y = f.1; w = f.2; h = f.3 }) (four_of given)

abbrev pub given_of : Option EntrySort → List (List ℕ) → Option GridEntry
given_of None given = None
given_of (Some Size) given = size_entry given
given_of (Some Block) given = block_entry given
given_of (Some Region) given = region_entry given
given_of (Some Obstacle) given = obstacle_of given

-- what the fields of a line say, if its words, its name and their number are right
abbrev pub entry_of : List (List ℕ) → Option GridEntry
entry_of [] = None
entry_of (word ∷ given) = given_of (entry_sort word) given

-- Numbers

-- a grid is at most 1,000 cells wide and high; for others the limit is what four digits write
abbrev pub most_extent : EntrySort → ℕ
most_extent Size = 1000
most_extent Block = 9999
most_extent Region = 9999
most_extent Obstacle = 9999

unfoldable pub has_numbers : GridEntry → Bool
has_numbers entry =
    is_short_number entry.x && is_short_number entry.y
    && is_extent (most_extent entry.sort) entry.w && is_extent (most_extent entry.sort) entry.h

-- the rectangle that the numbers write
abbrev pub rect_of : GridEntry → Rect
rect_of entry = record {
  x = digits_value 10 entry.x;
  y = digits_value 10 entry.y;
  w = digits_value 10 entry.w;
  h = digits_value 10 entry.h;
}

-- what a line says, with its numbers
pub record Item : Type 0 where
  pub sort : EntrySort
  pub name : List ℕ
  pub rect : Rect

abbrev pub grid_item : GridEntry → Item
grid_item entry = record { sort = entry.sort; name = entry.name; rect = rect_of entry }
