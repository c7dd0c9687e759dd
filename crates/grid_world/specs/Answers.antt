-- The answers of the grid.
use Rattle.std.specs.Prelude.{ℕ, ◌+◌, ◌-◌, Bool, not, ◌&&◌, ◌==◌, nat_lt, nat_le, List, [], ◌∷◌, map, filter, slice_index_or, option_to_list, Option, Some, None, if◌then◌else◌}
use Rattle.std.specs.List.{flat_map, list_any}
use Rattle.gen_lines.specs.Reply.{fields}
use Rattle.lemmas.specs.Lists.{numbers_from}
use Rattle.grid_text.specs.Entries.{four_of}
use Rattle.grid_text.specs.Grids.{GridFile, NamedRect, area}
use Rattle.grid_text.specs.Rects.{Cell, is_within, meets}
use Rattle.grid_text.specs.declared.grid.Block.{Block}
use Rattle.grid_text.specs.declared.rect.Rect.{Rect}
use Rattle.grid_world.specs.Asks.{Ask}
pub use Rattle.grid_world.specs.Asks.{ask_of}
use Rattle.grid_world.specs.Inputs.{one_of, two_of, three_of}
use Rattle.grid_world.specs.Words.{block_named, region_named, side_of, posed, rect_at}
use Rattle.grid_world.specs.declared.answer.GridAnswer.{GridAnswer}
use Rattle.grid_world.specs.declared.answer.GridAnswer.TheVariants as answer
use Rattle.grid_world.specs.declared.answer.Side.{Side}
use Rattle.grid_world.specs.declared.answer.Side.TheVariants.{N, E, S, W}
use Rattle.grid_world.specs.declared.reach.WideCell.{WideCell}
use Rattle.grid_world.specs.declared.words.Corner.{Corner}
use Rattle.grid_world.specs.declared.words.Stream.{Stream}
use Rattle.grid_world.specs.declared.words.Stream.TheVariants.{Place, Grasp, Reach, Clear}

-- the cells that obstacles cover
abbrev pub is_blocked : GridFile → Rect → Bool
is_blocked grid rect = list_any (λ (obstacle : Rect). meets rect obstacle) grid.obstacles

-- place

-- the corners in a row and in a rectangle, by y and then by x
abbrev pub row_corners : ℕ → ℕ → ℕ → List Corner
row_corners x w y = map (λ x. record { x = x; y = y }) (numbers_from x w)

abbrev pub corners : Rect → List Corner
corners rect = flat_map (row_corners rect.x rect.w) (numbers_from rect.y rect.h)

-- with this corner the block lies wholly in the region, and no obstacle covers a cell of it
abbrev pub may_lie : GridFile → Block → Rect → Corner → Bool
may_lie grid block region corner =
    is_within (rect_at block corner) region && not (is_blocked grid (rect_at block corner))

abbrev pub pose_answer : Corner → GridAnswer
pose_answer corner = answer.Pose corner.x corner.y

-- the poses at the corners that may be taken
abbrev pub poses_at : GridFile → Block → Rect → List Corner → List GridAnswer
poses_at grid block region among = map pose_answer (filter (may_lie grid block region) among)

abbrev pub poses_in : GridFile → Option Block → Option NamedRect → List GridAnswer
poses_in grid None region = []
poses_in grid (Some block) None = []
poses_in grid (Some block) (Some region) = poses_at grid block region.rect (corners region.rect)

abbrev pub poses_of : GridFile → Option (List ℕ × List ℕ) → List GridAnswer
poses_of grid None = []
poses_of grid (Some names) = poses_in grid (block_named grid names.0) (region_named grid names.1)

-- grasp

abbrev pub all_sides : List GridAnswer
all_sides = answer.Side N ∷ answer.Side E ∷ answer.Side S ∷ answer.Side W ∷ []

abbrev pub sides_of : Option Block → List GridAnswer
sides_of None = []
sides_of (Some block) = all_sides

abbrev pub grasps_of : GridFile → Option (List ℕ) → List GridAnswer
grasps_of grid None = []
grasps_of grid (Some name) = sides_of (block_named grid name)

-- reach

abbrev pub cell_at : WideCell → Cell
cell_at cell = record { x = cell.x; y = cell.y }

-- the cell north and the cell west of one, where there are such cells
abbrev pub north_of : ℕ → ℕ → Option Cell
north_of x y = if y == 0 then None else Some (record { x = x; y = y - 1 })

abbrev pub west_of : ℕ → ℕ → Option Cell
west_of x y = if x == 0 then None else Some (record { x = x - 1; y = y })

-- the cell beside a block from which it is reached
abbrev pub cell_beside : Rect → Side → Option Cell
cell_beside rect N = north_of rect.x rect.y
cell_beside rect E = Some (record { x = rect.x + rect.w; y = rect.y })
cell_beside rect S = Some (record { x = rect.x; y = rect.y + rect.h })
cell_beside rect W = west_of rect.x rect.y

-- the cell is one of the rectangle's
unfoldable pub covers : Rect → Cell → Bool
covers rect cell =
    nat_le rect.x cell.x && nat_lt cell.x (rect.x + rect.w) && nat_le rect.y cell.y
    && nat_lt cell.y (rect.y + rect.h)

-- the cell is in the grid, and in no obstacle
unfoldable pub is_open_cell : GridFile → Cell → Bool
is_open_cell grid cell =
    nat_lt cell.x grid.width && nat_lt cell.y grid.height
    && not (list_any (λ obstacle. covers obstacle cell) grid.obstacles)

abbrev pub hand_in : GridFile → Cell → Option GridAnswer
hand_in grid cell = if is_open_cell grid cell then Some (answer.Hand cell.x cell.y) else None

abbrev pub hand_at : GridFile → Option Cell → Option GridAnswer
hand_at grid None = None
hand_at grid (Some cell) = hand_in grid cell

abbrev pub reached : GridFile → Option Rect → Option Side → Option GridAnswer
reached grid None side = None
reached grid (Some rect) None = None
reached grid (Some rect) (Some side) =
    if is_within rect (area grid) then hand_at grid (cell_beside rect side) else None

abbrev pub hand_of : GridFile → Option (List ℕ × List ℕ × List ℕ) → Option GridAnswer
hand_of grid None = None
hand_of grid (Some words) = reached grid (posed grid words.0 words.1) (side_of words.2)

-- clear

abbrev pub apart : GridFile → Option Rect → Option Rect → Option GridAnswer
apart grid None second = None
apart grid (Some first) None = None
apart grid (Some first) (Some second) =
    if is_within first (area grid) && is_within second (area grid) && not (meets first second) then Some answer.Yes
    else None

abbrev pub clear_of : GridFile → Option (List ℕ × List ℕ × List ℕ × List ℕ) → Option GridAnswer
clear_of grid None = None
clear_of grid (Some words) = apart grid (posed grid words.0 words.1) (posed grid words.2 words.3)

-- All answers of a stream with these inputs, in order.
abbrev pub grid_list : GridFile → Stream → List (List ℕ) → List GridAnswer
grid_list grid Place inputs = poses_of grid (two_of inputs)
grid_list grid Grasp inputs = grasps_of grid (one_of inputs)
grid_list grid Reach inputs = option_to_list (hand_of grid (three_of inputs))
grid_list grid Clear inputs = option_to_list (clear_of grid (four_of inputs))

-- the answer at a place, from 0
abbrev pub nth : ℕ → List GridAnswer → GridAnswer
nth k answers = slice_index_or answers k answer.End

abbrev pub answer_to : GridFile → Option Ask → GridAnswer
answer_to grid None = answer.End
answer_to grid (Some ask) = nth ask.turn (grid_list grid ask.stream ask.inputs)

-- The answer to a line.
abbrev pub answer_in : GridFile → List ℕ → GridAnswer
answer_in grid line = answer_to grid (ask_of (fields line))
