-- What is wrong with a step, and worlds after more steps.
use Rattle.std.proofs.Common.{◌≡◌, ◌≢◌, ℕ, ◌+◌, ◌<◌, true, false, List, [], ◌∷◌, ◌++◌, take, refl, sym, subst, ap, ◌∙◌, arith, Option, Some, None, slice_get, option_and_then}
use Rattle.lemmas.proofs.Bools.{not_both}
use Rattle.lemmas.proofs.Members.{next_taken}
use Rattle.grid_text.specs.Grids.{GridFile, area}
use Rattle.grid_text.specs.Rects.{is_within}
use Rattle.grid_text.specs.declared.grid.Block.{Block}
use Rattle.grid_text.specs.declared.rect.Rect.{Rect}
use Rattle.grid_world.specs.Answers.{is_blocked}
use Rattle.grid_world.specs.Words.{rect_at}
use Rattle.grid_world.specs.declared.words.Corner.{Corner}
use Rattle.grid_play.specs.Faults.{LaysDown, Overlap, fault_rank, mark_in}
use Rattle.grid_play.specs.Steps.{IsCellsVerdict, IsClashVerdict, IsLaidVerdict, IsPutVerdict, IsStepVerdict, StepFault, marks_for}
use Rattle.grid_play.specs.Worlds.{World, after_move, move_of, step_world, world_after}
use Rattle.grid_play.specs.declared.moves.Move.{Move}
use Rattle.grid_play.specs.declared.moves.Move.TheVariants.{Pick, Put}
use Rattle.grid_play.specs.declared.play.PlayVerdict.{PlayVerdict}
use Rattle.grid_play.specs.declared.play.PlayVerdict.TheVariants.{Safe, Strange, Outside, Obstacle, Clash}
use Rattle.transcript_model.specs.declared.entry.Call.{Call}

-- ---- worlds after more steps

pub world_after-append : (grid : GridFile) (world : World) (xs ys : List Call)
    → world_after grid world (xs ++ ys) ≡ option_and_then (λ next. world_after grid next ys) (world_after grid world xs)
world_after-append grid world [] ys = refl
world_after-append grid world (x ∷ xs) ys =
    elim (step_world grid world x) as (λ o.
    option_and_then (λ next. world_after grid next (xs ++ ys)) o
    ≡ option_and_then (λ next. world_after grid next ys) (option_and_then (λ next. world_after grid next xs) o)) [
      | None ↦ refl
      | Some next ↦ world_after-append grid next xs ys
    ]

or_itself : {A : Type 0} (o : Option A) → option_and_then (λ x. Some x) o ≡ o
or_itself None = refl
or_itself (Some x) = refl

-- the world after one step more
pub world_next : (grid : GridFile) (start world : World) (steps : List Call) (k : ℕ) (call : Call)
    → slice_get steps k ≡ Some call → world_after grid start (take k steps) ≡ Some world
    → world_after grid start (take (k + 1) steps) ≡ step_world grid world call
world_next grid start world steps k call at before =
    ap (world_after grid start) (next_taken steps k call at)
    ∙ world_after-append grid start (take k steps) (call ∷ [])
    ∙ ap (option_and_then (λ next. world_after grid next (call ∷ []))) before
    ∙ or_itself (step_world grid world call)

-- ---- one step

-- where the step's move is this, what it lays down is what that does
laid_is : (grid : GridFile) (world : World) (call : Call) (step : ℕ) (action : Move) (name : List ℕ) (cells : Rect)
    → move_of grid call ≡ Some action → IsPutVerdict grid step action Safe → LaysDown grid world call name cells
    → (is_within cells (area grid) ≡ true) × (is_blocked grid cells ≡ false)
laid_is grid world call step (Pick block corner) name cells e safe laid =
    let both : Some (Pick block corner) ≡ Some (Put laid.block laid.corner) = sym e ∙ laid.move in absurd (cc)
laid_is grid world call step (Put block corner) name cells e safe laid =
    let both : Some (Put block corner) ≡ Some (Put laid.block laid.corner) = sym e ∙ laid.move in
    let blocks : block ≡ laid.block = cc in
    let corners : corner ≡ laid.corner = cc in
    let found : slice_get grid.blocks block ≡ Some laid.found = ap (slice_get grid.blocks) blocks ∙ laid.at in
    let fine = by (slice_get grid.blocks block) laid.found found safe in
    let same : rect_at laid.found corner ≡ cells = ap (rect_at laid.found) corners ∙ sym laid.cells_are in
    (subst (λ c. is_within c (area grid) ≡ true) same fine.0, subst (λ c. is_blocked grid c ≡ false) same fine.1)
  where
    by : (o : Option Block) (found : Block) → o ≡ Some found → IsLaidVerdict grid step o corner Safe
        → (is_within (rect_at found corner) (area grid) ≡ true) × (is_blocked grid (rect_at found corner) ≡ false)
    by None found e safe = absurd (cc)
    by (Some block) found e safe =
        let same : block ≡ found = cc in
        subst (λ (b : Block). (is_within (rect_at b corner) (area grid) ≡ true) × (is_blocked grid (rect_at b corner) ≡ false)) same safe

some_none : {A : Type 0} (o : Option A) (x : A) → o ≡ Some x → o ≡ None → ⊥
some_none o x s n = absurd (cc)

-- a step that is no move, or can't be made, is strange
pub strange_verdict : (grid : GridFile) (world : World) (step : ℕ) (call : Call) → step_world grid world call ≡ None
    → IsStepVerdict grid world step call (Strange step)
strange_verdict grid world step call none = record { has = (refl, none); first = first }
  where
    first : (other : PlayVerdict) → StepFault grid world step call other → ¬ (fault_rank other < 1)
    first Safe fault less = fault
    first (Strange i) fault less = omega (arith, less)
    first (Outside i name) fault less = omega (arith, less)
    first (Obstacle i name) fault less = omega (arith, less)
    first (Clash i a b) fault less = omega (arith, less)

pub no_move : (grid : GridFile) (world : World) (call : Call) → move_of grid call ≡ None
    → step_world grid world call ≡ None
no_move grid world call e = ap (option_and_then (after_move world)) e

pub made_world : (grid : GridFile) (world : World) (call : Call) (action : Move) → move_of grid call ≡ Some action
    → step_world grid world call ≡ after_move world action
made_world grid world call action e = ap (option_and_then (after_move world)) e

-- a step lays its block down on one set of cells
one_place : (grid : GridFile) (world : World) (call : Call) (name other : List ℕ) (cells others : Rect)
    → LaysDown grid world call name cells → LaysDown grid world call other others → cells ≡ others
one_place grid world call name other cells others a b =
    let moves : Some (Put a.block a.corner) ≡ Some (Put b.block b.corner) = sym a.move ∙ b.move in
    let blocks : a.block ≡ b.block = cc in
    let corners : a.corner ≡ b.corner = cc in
    let at : Some a.found ≡ Some b.found = sym a.at ∙ ap (slice_get grid.blocks) blocks ∙ b.at in
    let found : a.found ≡ b.found = cc in
    a.cells_are ∙ ap (rect_at a.found) corners ∙ ap (λ f. rect_at f b.corner) found ∙ sym b.cells_are

-- a step whose block was laid down has its mark
pub put_marks : (grid : GridFile) (step : ℕ) (call : Call) (action : Move) (v : PlayVerdict) → IsPutVerdict grid step action v
    → marks_for grid step call v ≡ mark_in grid step (move_of grid call)
put_marks grid step call action Safe is = refl
put_marks grid step call action (Strange i) is = absurd (not_strange action is)
  where
    laid_not : (o : Option Block) (corner : Corner) → IsLaidVerdict grid step o corner (Strange i) → ⊥
    laid_not None corner is = absurd (cc)
    laid_not (Some block) corner is = is

    not_strange : (action : Move) → IsPutVerdict grid step action (Strange i) → ⊥
    not_strange (Pick block corner) is = absurd (cc)
    not_strange (Put block corner) is = laid_not (slice_get grid.blocks block) corner is
put_marks grid step call action (Outside i name) is = refl
put_marks grid step call action (Obstacle i name) is = refl
put_marks grid step call action (Clash i a b) is = refl

module _ (grid : GridFile) (world next : World) (step : ℕ) (call : Call)
    (made : step_world grid world call ≡ Some next) where
  cells_verdict : (block : ℕ) (corner : Corner) (found : Block) → move_of grid call ≡ Some (Put block corner)
      → slice_get grid.blocks block ≡ Some found → (verdict : PlayVerdict)
      → IsCellsVerdict grid step found.name (rect_at found corner) verdict → verdict ≢ Safe
      → IsStepVerdict grid world step call verdict
  cells_verdict block corner found move at Safe is fault = absurd (fault refl)
  cells_verdict block corner found move at (Strange i) is fault = absurd is
  cells_verdict block corner found move at (Clash i a b) is fault = absurd is
  cells_verdict block corner found move at (Outside i name) is fault = record {
    has = (is.0, rect_at found corner, lays, is.2);
    first = first;
  }
    where
      lays : LaysDown grid world call name (rect_at found corner)
      lays = record {
        block = block;
        corner = corner;
        move = move;
        next = next;
        made = made;
        found = found;
        at = at;
        named = is.1;
        cells_are = refl;
      }

      first : (other : PlayVerdict) → StepFault grid world step call other → ¬ (fault_rank other < 2)
      first Safe other less = other
      first (Strange j) other less = some_none (step_world grid world call) next made other.1
      first (Outside j n) other less = omega (arith, less)
      first (Obstacle j n) other less = omega (arith, less)
      first (Clash j a b) other less = omega (arith, less)
  cells_verdict block corner found move at (Obstacle i name) is fault = record {
    has = (is.0, rect_at found corner, lays, is.3);
    first = first;
  }
    where
      lays : LaysDown grid world call name (rect_at found corner)
      lays = record {
        block = block;
        corner = corner;
        move = move;
        next = next;
        made = made;
        found = found;
        at = at;
        named = is.1;
        cells_are = refl;
      }

      first : (other : PlayVerdict) → StepFault grid world step call other → ¬ (fault_rank other < 3)
      first Safe other less = other
      first (Strange j) other less = some_none (step_world grid world call) next made other.1
      first (Outside j n) other less =
          let same = one_place grid world call n name other.1 (rect_at found corner) other.2 lays in
          not_both (is_within (rect_at found corner) (area grid)) is.2
          (ap (λ c. is_within c (area grid)) (sym same) ∙ other.3)
      first (Obstacle j n) other less = omega (arith, less)
      first (Clash j a b) other less = omega (arith, less)

  found_verdict : (block : ℕ) (corner : Corner) → move_of grid call ≡ Some (Put block corner) → (o : Option Block)
      → slice_get grid.blocks block ≡ o → (verdict : PlayVerdict) → IsLaidVerdict grid step o corner verdict
      → verdict ≢ Safe → IsStepVerdict grid world step call verdict
  found_verdict block corner move None at verdict is fault = absurd (fault is)
  found_verdict block corner move (Some found) at verdict is fault =
      cells_verdict block corner found move at verdict is fault

  -- what is wrong with where the block is laid down is wrong with the step first
  pub laid_verdict : (action : Move) → move_of grid call ≡ Some action → (verdict : PlayVerdict)
      → IsPutVerdict grid step action verdict → verdict ≢ Safe → IsStepVerdict grid world step call verdict
  laid_verdict (Pick block corner) move verdict is fault = absurd (fault is)
  laid_verdict (Put block corner) move verdict is fault =
      found_verdict block corner move (slice_get grid.blocks block) refl verdict is fault

  -- where nothing is wrong with that, what is wrong with the world after the step is wrong with the step first
  pub clash_verdict : (action : Move) → move_of grid call ≡ Some action → IsPutVerdict grid step action Safe
      → (verdict : PlayVerdict) → IsClashVerdict grid next step verdict → IsStepVerdict grid world step call verdict
  clash_verdict action move safe verdict is = by verdict is
    where
      below : (other : PlayVerdict) → StepFault grid world step call other → fault_rank other < 4 → ⊥
      below Safe other less = other
      below (Strange j) other less = some_none (step_world grid world call) next made other.1
      below (Outside j n) other less =
          not_both (is_within other.1 (area grid))
          (laid_is grid world call step action n other.1 move safe other.2).0 other.3
      below (Obstacle j n) other less =
          not_both (is_blocked grid other.1) other.3
          (laid_is grid world call step action n other.1 move safe other.2).1
      below (Clash j a b) other less = omega (arith, less)

      all : IsClashVerdict grid next step Safe → (other : PlayVerdict) → StepFault grid world step call other → ⊥
      all clear (Clash j a b) other =
          let worlds : Some next ≡ Some other.1 = sym made ∙ other.2 in
          let same : other.1 ≡ next = cc in
          clear a b (subst (λ w. Overlap grid w a b) same other.3.overlap)
      all clear Safe other = other
      all clear (Strange j) other = below (Strange j) other (omega arith)
      all clear (Outside j n) other = below (Outside j n) other (omega arith)
      all clear (Obstacle j n) other = below (Obstacle j n) other (omega arith)

      by : (verdict : PlayVerdict) → IsClashVerdict grid next step verdict
          → IsStepVerdict grid world step call verdict
      by Safe is = all is
      by (Strange i) is = absurd is
      by (Outside i name) is = absurd is
      by (Obstacle i name) is = absurd is
      by (Clash i a b) is = record { has = (is.0, next, made, is.1); first = below }
