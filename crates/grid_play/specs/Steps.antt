-- What is wrong with one step, by the world in which it is taken.
use Rattle.std.specs.Prelude.{◌≡◌, ℕ, ◌<◌, true, false, List, [], Option, Some, None, slice_get}
use Rattle.grid_text.specs.Grids.{GridFile, area}
use Rattle.grid_text.specs.Rects.{is_within}
use Rattle.grid_text.specs.declared.grid.Block.{Block}
use Rattle.grid_text.specs.declared.rect.Rect.{Rect}
use Rattle.grid_world.specs.Answers.{is_blocked}
use Rattle.grid_world.specs.Words.{rect_at}
use Rattle.grid_world.specs.declared.words.Corner.{Corner}
use Rattle.grid_play.specs.Faults.{FirstOverlap, LaysDown, Overlap, fault_rank, mark_in}
use Rattle.grid_play.specs.Worlds.{World, move_of, step_world}
use Rattle.grid_play.specs.declared.moves.Move.{Move}
use Rattle.grid_play.specs.declared.moves.Move.TheVariants.{Pick, Put}
use Rattle.grid_play.specs.declared.play.Mark.{Mark}
use Rattle.grid_play.specs.declared.play.PlayVerdict.{PlayVerdict}
use Rattle.grid_play.specs.declared.play.PlayVerdict.TheVariants.{Safe, Strange, Outside, Obstacle, Clash}
use Rattle.transcript_model.specs.declared.entry.Call.{Call}

-- ---- clashes and puts

-- the first two blocks that share a cell, or that none do
abbrev pub IsClashVerdict : GridFile → World → ℕ → PlayVerdict → Type 0
IsClashVerdict grid world step Safe = (a b : List ℕ) → ¬ (Overlap grid world a b)
IsClashVerdict grid world step (Strange i) = ⊥
IsClashVerdict grid world step (Outside i name) = ⊥
IsClashVerdict grid world step (Obstacle i name) = ⊥
IsClashVerdict grid world step (Clash i first second) =
    (i ≡ step) × FirstOverlap grid world first second

-- the cells lie in the grid and in no obstacle; or what is wrong first
abbrev pub IsCellsVerdict : GridFile → ℕ → List ℕ → Rect → PlayVerdict → Type 0
IsCellsVerdict grid step name cells Safe =
    (is_within cells (area grid) ≡ true) × (is_blocked grid cells ≡ false)
IsCellsVerdict grid step name cells (Strange i) = ⊥
IsCellsVerdict grid step name cells (Outside i block) =
    (i ≡ step) × (block ≡ name) × (is_within cells (area grid) ≡ false)
IsCellsVerdict grid step name cells (Obstacle i block) =
    (i ≡ step) × (block ≡ name) × (is_within cells (area grid) ≡ true) × (is_blocked grid cells ≡ true)
IsCellsVerdict grid step name cells (Clash i first second) = ⊥

abbrev pub IsLaidVerdict : GridFile → ℕ → Option Block → Corner → PlayVerdict → Type 0
IsLaidVerdict grid step None corner verdict = verdict ≡ Safe
IsLaidVerdict grid step (Some block) corner verdict =
    IsCellsVerdict grid step block.name (rect_at block corner) verdict

-- what is wrong first with where a move leaves its block, if it is put
abbrev pub IsPutVerdict : GridFile → ℕ → Move → PlayVerdict → Type 0
IsPutVerdict grid step (Pick block corner) verdict = verdict ≡ Safe
IsPutVerdict grid step (Put block corner) verdict =
    IsLaidVerdict grid step (slice_get grid.blocks block) corner verdict

-- ---- steps

-- The step of this number, taken in the world, has this fault.
abbrev pub StepFault : GridFile → World → ℕ → Call → PlayVerdict → Type 0
StepFault grid world step call Safe = ⊥
StepFault grid world step call (Strange i) = (i ≡ step) × (step_world grid world call ≡ None)
StepFault grid world step call (Outside i name) =
    (i ≡ step) × (cells : Rect) × LaysDown grid world call name cells × (is_within cells (area grid) ≡ false)
StepFault grid world step call (Obstacle i name) =
    (i ≡ step) × (cells : Rect) × LaysDown grid world call name cells × (is_blocked grid cells ≡ true)
StepFault grid world step call (Clash i first second) =
    (i ≡ step) × (next : World) × (step_world grid world call ≡ Some next)
    × FirstOverlap grid next first second

-- it has this fault and none of an earlier kind
pub record IsFirstStepFault (grid : GridFile) (world : World) (step : ℕ) (call : Call) (verdict : PlayVerdict) : Type 0 where
  pub has : StepFault grid world step call verdict
  pub first : (other : PlayVerdict) → StepFault grid world step call other
      → ¬ (fault_rank other < fault_rank verdict)

-- It is safe where the step may be made and has no fault, and else its first fault.
abbrev pub IsStepVerdict : GridFile → World → ℕ → Call → PlayVerdict → Type 0
IsStepVerdict grid world step call Safe = (other : PlayVerdict) → ¬ (StepFault grid world step call other)
IsStepVerdict grid world step call (Strange i) = IsFirstStepFault grid world step call (Strange i)
IsStepVerdict grid world step call (Outside i name) = IsFirstStepFault grid world step call (Outside i name)
IsStepVerdict grid world step call (Obstacle i name) = IsFirstStepFault grid world step call (Obstacle i name)
IsStepVerdict grid world step call (Clash i first second) =
    IsFirstStepFault grid world step call (Clash i first second)

-- the mark of a step with this verdict
abbrev pub marks_for : GridFile → ℕ → Call → PlayVerdict → List Mark
marks_for grid step call Safe = mark_in grid step (move_of grid call)
marks_for grid step call (Strange i) = []
marks_for grid step call (Outside i name) = mark_in grid step (move_of grid call)
marks_for grid step call (Obstacle i name) = mark_in grid step (move_of grid call)
marks_for grid step call (Clash i first second) = mark_in grid step (move_of grid call)
