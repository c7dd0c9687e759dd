-- The words of a request.
use Rattle.std.specs.Prelude.{ℕ, ◌+◌, Bool, false, not, ◌&&◌, ◌==◌, List, [], ◌∷◌, codes, take, drop, find, position, Option, Some, None, option_map, if◌then◌else◌}
use Rattle.std.specs.Str.{bytes_eq}
use Rattle.std.specs.Str.Parse.{digits_value}
use Rattle.grid_text.specs.Grids.{GridFile, NamedRect}
use Rattle.grid_text.specs.Numbers.{is_decimal}
use Rattle.grid_text.specs.declared.grid.Block.{Block}
use Rattle.grid_text.specs.declared.rect.Rect.{Rect}
use Rattle.grid_world.specs.declared.answer.Side.{Side}
use Rattle.grid_world.specs.declared.answer.Side.TheVariants.{N, E, S, W}
use Rattle.grid_world.specs.declared.words.Corner.{Corner}
use Rattle.grid_world.specs.declared.words.Stream.{Stream}
use Rattle.grid_world.specs.declared.words.Stream.TheVariants.{Place, Grasp, Reach, Clear}

unfoldable pub served_stream : List ℕ → Option Stream
served_stream word =
    if bytes_eq word (codes "place") then Some Place else
    if bytes_eq word (codes "grasp") then Some Grasp else
    if bytes_eq word (codes "reach") then Some Reach else
    if bytes_eq word (codes "clear") then Some Clear else None

unfoldable pub side_of : List ℕ → Option Side
side_of word =
    if bytes_eq word (codes "#n") then Some N else
    if bytes_eq word (codes "#e") then Some E else
    if bytes_eq word (codes "#s") then Some S else
    if bytes_eq word (codes "#w") then Some W else None

abbrev pub block_named : GridFile → List ℕ → Option Block
block_named grid name = find (λ (b : Block). bytes_eq b.name name) grid.blocks

abbrev pub region_named : GridFile → List ℕ → Option NamedRect
region_named grid name = find (λ (r : NamedRect). bytes_eq r.name name) grid.regions

-- Poses

abbrev pub is_comma : ℕ → Bool
is_comma b = b == 44

-- a zero with more behind it
abbrev pub has_leading_zero : List ℕ → Bool
has_leading_zero [] = false
has_leading_zero (b ∷ []) = false
has_leading_zero (b ∷ next ∷ more) = b == 48

-- digits without leading zeros, whose value is below 2^32
unfoldable pub is_plain : List ℕ → Bool
is_plain text = not (has_leading_zero text) && is_decimal text

-- `X,Y`
abbrev pub corner_at : Option ℕ → List ℕ → Option Corner
corner_at None text = None
corner_at (Some comma) text =
    if is_plain (take comma text) && is_plain (drop (comma + 1) text)
    then Some (record { x = digits_value 10 (take comma text); y = digits_value 10 (drop (comma + 1) text) })
    else None

abbrev pub corner_of : List ℕ → Option Corner
corner_of text = corner_at (position is_comma text) text

-- where the block stands at first
abbrev pub home_of : Option Block → Option Corner
home_of block = option_map (λ (b : Block). record { x = b.x; y = b.y }) block

-- the corner that `#X,Y` writes, or the first corner of the block B of `home-B`
unfoldable pub pose_of : GridFile → List ℕ → Option Corner
pose_of grid word =
    if bytes_eq (take 1 word) (codes "#") then corner_of (drop 1 word) else
    if bytes_eq (take 5 word) (codes "home-") then home_of (block_named grid (drop 5 word)) else None

-- the cells of a block with this corner
abbrev pub rect_at : Block → Corner → Rect
rect_at block corner = record { x = corner.x; y = corner.y; w = block.w; h = block.h }

abbrev pub posed_at : Option Block → Option Corner → Option Rect
posed_at None corner = None
posed_at (Some block) corner = option_map (rect_at block) corner

-- the cells of the block at the pose
abbrev pub posed : GridFile → List ℕ → List ℕ → Option Rect
posed grid block pose = posed_at (block_named grid block) (pose_of grid pose)
