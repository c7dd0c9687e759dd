-- Worlds of blocks, and how the steps of a plan change them.
use Rattle.std.specs.Prelude.{ℕ, Bool, true, false, not, ◌&&◌, ◌==◌, List, [], ◌∷◌, codes, map, position, slice_get, slice_set, Option, Some, None, option_map, option_and_then, if◌then◌else◌}
use Rattle.std.specs.List.{list_any}
use Rattle.std.specs.Option.{is_none}
use Rattle.std.specs.Str.{bytes_eq}
use Rattle.grid_text.specs.Entries.{four_of}
use Rattle.grid_text.specs.Grids.{GridFile}
use Rattle.grid_text.specs.declared.grid.Block.{Block}
use Rattle.grid_world.specs.Words.{pose_of}
use Rattle.grid_world.specs.declared.words.Corner.{Corner}
use Rattle.grid_play.specs.declared.moves.Move.{Move}
use Rattle.grid_play.specs.declared.moves.Move.TheVariants.{Pick, Put}
use Rattle.transcript_model.specs.declared.entry.Call.{Call}

-- ---- worlds

-- for each block, in the order of the grid's file, the corner with its least x and y, or None where it is held
abbrev pub World : Type 0
World = List (Option Corner)

abbrev pub home_corner : Block → Corner
home_corner block = record { x = block.x; y = block.y }

-- each block stands at its first corner
abbrev pub home_world : GridFile → World
home_world grid = map (λ (b : Block). Some (home_corner b)) grid.blocks

abbrev pub same_corner : Corner → Corner → Bool
same_corner a b = (a.x == b.x) && (a.y == b.y)

abbrev pub stands_at : Option (Option Corner) → Corner → Bool
stands_at None corner = false
stands_at (Some None) corner = false
stands_at (Some (Some at)) corner = same_corner at corner

-- the block at this place of the list is at the corner
abbrev pub is_at : World → ℕ → Corner → Bool
is_at world block corner = stands_at (slice_get world block) corner

abbrev pub is_in_hand : Option (Option Corner) → Bool
is_in_hand None = false
is_in_hand (Some None) = true
is_in_hand (Some (Some at)) = false

-- it is held
abbrev pub is_held : World → ℕ → Bool
is_held world block = is_in_hand (slice_get world block)

-- ---- moves

-- the block that the first of four words names, by its place, and the corner that the second means
abbrev pub target_of : GridFile → Option (List ℕ × List ℕ × List ℕ × List ℕ) → Option (ℕ × Corner)
target_of grid None = None
target_of grid (Some words) =
    option_and_then (λ block. option_map (λ corner. (block, corner)) (pose_of grid words.1))
    (position (λ (b : Block). bytes_eq b.name words.0) grid.blocks)

-- The move of a step: `pick B P G C` or `put B P G C`, where B is a block of the grid and P a word for a corner.
unfoldable pub move_of : GridFile → Call → Option Move
move_of grid call =
    if bytes_eq call.name (codes "pick") then option_map (λ t. Pick t.0 t.1) (target_of grid (four_of call.args)) else
    if bytes_eq call.name (codes "put") then option_map (λ t. Put t.0 t.1) (target_of grid (four_of call.args)) else None

-- A block is picked where it is, while none is held. A block is put while it is held.
abbrev pub after_move : World → Move → Option World
after_move world (Pick block corner) =
    if is_at world block corner && not (list_any is_none world) then Some (slice_set world block None) else None
after_move world (Put block corner) =
    if is_held world block then Some (slice_set world block (Some corner)) else None

-- the world after a step, if it is a move that may be made
abbrev pub step_world : GridFile → World → Call → Option World
step_world grid world call = option_and_then (after_move world) (move_of grid call)

-- the world after steps, if each is
abbrev pub world_after : GridFile → World → List Call → Option World
world_after grid world [] = Some world
world_after grid world (call ∷ calls) =
    option_and_then (λ next. world_after grid next calls) (step_world grid world call)
