-- What is wrong with a plan that is acted out, and what its steps do.
use Rattle.std.specs.Prelude.{◌≡◌, ◌≢◌, ℕ, ◌+◌, ◌-◌, ◌<◌, ◌⊎◌, Bool, true, false, List, [], ◌∷◌, ◌++◌, length, take, slice_get, Option, Some, None}
use Rattle.std.specs.Cmp.Lexicographic.{slice_cmp}
use Rattle.std.specs.Ordering.{nat_cmp, ordering_then}
use Rattle.std.specs.declared.cmp.Ordering.{Ordering}
use Rattle.std.specs.declared.cmp.Ordering.TheVariants.{Less, Greater}
use Rattle.grid_text.specs.Grids.{GridFile, area}
use Rattle.grid_text.specs.Rects.{is_within, meets}
use Rattle.grid_text.specs.declared.grid.Block.{Block}
use Rattle.grid_text.specs.declared.rect.Rect.{Rect}
use Rattle.grid_world.specs.Answers.{is_blocked}
use Rattle.grid_world.specs.Words.{rect_at}
use Rattle.grid_world.specs.declared.words.Corner.{Corner}
use Rattle.grid_play.specs.Worlds.{World, home_world, move_of, step_world, world_after}
use Rattle.grid_play.specs.declared.moves.Move.{Move}
use Rattle.grid_play.specs.declared.moves.Move.TheVariants.{Pick, Put}
use Rattle.grid_play.specs.declared.play.Mark.{Mark}
use Rattle.grid_play.specs.declared.play.Mark.TheVariants.{Held, Placed}
use Rattle.grid_play.specs.declared.play.Play.{Play}
use Rattle.grid_play.specs.declared.play.PlayVerdict.{PlayVerdict}
use Rattle.grid_play.specs.declared.play.PlayVerdict.TheVariants.{Safe, Strange, Outside, Obstacle, Clash}
use Rattle.transcript_model.specs.declared.entry.Call.{Call}

-- ---- blocks and their cells

abbrev pub name_in : Option Block → List ℕ
name_in None = []
name_in (Some block) = block.name

-- the name of the block at this place of the grid's list
abbrev pub block_name : GridFile → ℕ → List ℕ
block_name grid block = name_in (slice_get grid.blocks block)

abbrev pub cells_at : Option Block → Option (Option Corner) → Option Rect
cells_at None at = None
cells_at (Some block) None = None
cells_at (Some block) (Some None) = None
cells_at (Some block) (Some (Some corner)) = Some (rect_at block corner)

-- the cells of the block at this place where it isn't held
abbrev pub cells_of : GridFile → World → ℕ → Option Rect
cells_of grid world block = cells_at (slice_get grid.blocks block) (slice_get world block)

abbrev pub meet_in : Option Rect → Option Rect → Bool
meet_in None second = false
meet_in (Some first) None = false
meet_in (Some first) (Some second) = meets first second

-- two blocks aren't held and share a cell
abbrev pub share : GridFile → World → ℕ → ℕ → Bool
share grid world one other = meet_in (cells_of grid world one) (cells_of grid world other)

-- ---- clashes

-- names are compared byte by byte; of a name and a longer one that begins with it the shorter comes first
abbrev pub name_cmp : List ℕ → List ℕ → Ordering
name_cmp = slice_cmp nat_cmp

-- pairs are compared by their first names, and then by their second
abbrev pub name_pair_cmp : List ℕ → List ℕ → List ℕ → List ℕ → Ordering
name_pair_cmp a b c d = ordering_then (name_cmp a c) (name_cmp b d)

-- Two blocks of these names aren't held and share a cell, the lesser name first.
pub record Overlap (grid : GridFile) (world : World) (first second : List ℕ) : Type 0 where
  pub one : ℕ
  pub other : ℕ
  pub apart : one ≢ other
  pub shared : share grid world one other ≡ true
  pub first_is : first ≡ block_name grid one
  pub second_is : second ≡ block_name grid other
  pub lesser : name_cmp first second ≢ Greater

-- They do, and of all such pairs they are the least.
pub record FirstOverlap (grid : GridFile) (world : World) (first second : List ℕ) : Type 0 where
  pub overlap : Overlap grid world first second
  pub least : (a b : List ℕ) → Overlap grid world a b → name_pair_cmp a b first second ≢ Less

-- ---- faults

-- The step of this number, from 1, is taken in this world.
pub record IsStepInWorld (grid : GridFile) (steps : List Call) (i : ℕ) (call : Call) (world : World) : Type 0 where
  pub place : ℕ
  pub number : i ≡ place + 1
  pub is : slice_get steps place ≡ Some call
  pub before : world_after grid (home_world grid) (take place steps) ≡ Some world

-- The step may be made in the world, and leaves the block of this name on these cells.
pub record LaysDown (grid : GridFile) (world : World) (call : Call) (name : List ℕ) (cells : Rect) : Type 0 where
  pub block : ℕ
  pub corner : Corner
  pub move : move_of grid call ≡ Some (Put block corner)
  pub next : World
  pub made : step_world grid world call ≡ Some next
  pub found : Block
  pub at : slice_get grid.blocks block ≡ Some found
  pub named : name ≡ found.name
  pub cells_are : cells ≡ rect_at found corner

-- The plan has this fault: a step that is no move or may not be made; a step that leaves its block with a cell outside
-- of the grid, or on a cell of an obstacle; or after a step, at first where it is 0, two blocks share a cell. Behind a
-- strange step there is no world, so nothing more is wrong.
abbrev pub HasPlayFault : GridFile → List Call → PlayVerdict → Type 0
HasPlayFault grid steps Safe = ⊥
HasPlayFault grid steps (Strange i) =
    (call : Call) × (world : World) × IsStepInWorld grid steps i call world × (step_world grid world call ≡ None)
HasPlayFault grid steps (Outside i name) =
    (call : Call) × (world : World) × (cells : Rect) × IsStepInWorld grid steps i call world
    × LaysDown grid world call name cells × (is_within cells (area grid) ≡ false)
HasPlayFault grid steps (Obstacle i name) =
    (call : Call) × (world : World) × (cells : Rect) × IsStepInWorld grid steps i call world
    × LaysDown grid world call name cells × (is_blocked grid cells ≡ true)
HasPlayFault grid steps (Clash i first second) =
    (world : World) × (i < length steps + 1) × (world_after grid (home_world grid) (take i steps) ≡ Some world)
    × FirstOverlap grid world first second

abbrev pub fault_step : PlayVerdict → ℕ
fault_step Safe = 0
fault_step (Strange i) = i
fault_step (Outside i name) = i
fault_step (Obstacle i name) = i
fault_step (Clash i first second) = i

abbrev pub fault_rank : PlayVerdict → ℕ
fault_rank Safe = 0
fault_rank (Strange i) = 1
fault_rank (Outside i name) = 2
fault_rank (Obstacle i name) = 3
fault_rank (Clash i first second) = 4

-- it is of an earlier step, or of the same step and of an earlier kind
abbrev pub PrecedesFault : PlayVerdict → PlayVerdict → Type 0
PrecedesFault a b =
    (fault_step a < fault_step b) ⊎ ((fault_step a ≡ fault_step b) × (fault_rank a < fault_rank b))

-- The plan has this fault, and none that precedes it.
pub record IsFirstPlayFault (grid : GridFile) (steps : List Call) (verdict : PlayVerdict) : Type 0 where
  pub has : HasPlayFault grid steps verdict
  pub first : (other : PlayVerdict) → HasPlayFault grid steps other → ¬ (PrecedesFault other verdict)

-- It is safe where the plan has no fault, and else the first fault.
abbrev pub IsPlayVerdict : GridFile → List Call → PlayVerdict → Type 0
IsPlayVerdict grid steps Safe = (other : PlayVerdict) → ¬ (HasPlayFault grid steps other)
IsPlayVerdict grid steps (Strange i) = IsFirstPlayFault grid steps (Strange i)
IsPlayVerdict grid steps (Outside i name) = IsFirstPlayFault grid steps (Outside i name)
IsPlayVerdict grid steps (Obstacle i name) = IsFirstPlayFault grid steps (Obstacle i name)
IsPlayVerdict grid steps (Clash i first second) = IsFirstPlayFault grid steps (Clash i first second)

-- ---- marks

abbrev pub mark_in : GridFile → ℕ → Option Move → List Mark
mark_in grid i None = []
mark_in grid i (Some (Pick block corner)) = Held i (block_name grid block) ∷ []
mark_in grid i (Some (Put block corner)) = Placed i (block_name grid block) corner.x corner.y ∷ []

-- the marks of steps that are numbered from this number on
abbrev pub marks_from : GridFile → ℕ → List Call → List Mark
marks_from grid i [] = []
marks_from grid i (call ∷ calls) = mark_in grid i (move_of grid call) ++ marks_from grid (i + 1) calls

-- how many steps have a mark: all up to the fault, and the one with the fault too unless it is strange
abbrev pub marked : List Call → PlayVerdict → ℕ
marked steps Safe = length steps
marked steps (Strange i) = i - 1
marked steps (Outside i name) = i
marked steps (Obstacle i name) = i
marked steps (Clash i first second) = i

-- The verdict is the plan's, and the marks are those of the steps up to the fault.
pub record IsActedOut (grid : GridFile) (steps : List Call) (play : Play) : Type 0 where
  pub verdict : IsPlayVerdict grid steps play.verdict
  pub marks : play.marks ≡ marks_from grid 1 (take (marked steps play.verdict) steps)
