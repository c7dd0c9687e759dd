-- Worlds in which one block is moved, and the moves of steps.
use Rattle.grid_play.specs.Faults.{LaysDown, cells_at, meet_in, share}
use Rattle.grid_play.specs.Worlds.{World, move_of, same_corner}
use Rattle.grid_play.specs.declared.moves.Move.TheVariants.{Pick, Put}
use Rattle.grid_text.specs.Grids.{GridFile, area}
use Rattle.grid_text.specs.Rects.{is_within}
use Rattle.grid_text.specs.declared.grid.Block.{Block}
use Rattle.grid_text.specs.declared.rect.Rect.{Rect}
use Rattle.grid_world.specs.Answers.{is_blocked}
use Rattle.grid_world.specs.Words.{pose_of, posed_at, rect_at}
use Rattle.grid_world.specs.declared.words.Corner.{Corner}
use Rattle.play_laws.proofs.FoundLemmas.{meets_swap}
use Rattle.std.proofs.Common.{◌≡◌, ◌≢◌, ℕ, zero, suc, true, false, ◌==◌, List, [], ◌∷◌, codes, refl, ap, ◌∙◌, Option, Some, None, position, slice_get, slice_set, option_map, eq-eqb}
use Rattle.std.proofs.lemmas.Bool.{and_from}
use Rattle.std.specs.Option.{is_none, option_and_then}
use Rattle.std.specs.Str.{bytes_eq}
use Rattle.transcript_model.specs.declared.entry.Call.{Call}

-- ---- lists in which one member is set

pub set_here : {A : Type 0} (xs : List A) (i : ℕ) (v x : A) → slice_get xs i ≡ Some x → slice_get (slice_set xs i v) i ≡ Some v
set_here [] i v x e = absurd (cc)
set_here (y ∷ ys) zero v x e = refl
set_here (y ∷ ys) (suc i) v x e = set_here ys i v x e

pub set_other : {A : Type 0} (xs : List A) (i j : ℕ) (v : A) → j ≢ i → slice_get (slice_set xs i v) j ≡ slice_get xs j
set_other [] i j v apart = refl
set_other (y ∷ ys) zero zero v apart = absurd (apart refl)
set_other (y ∷ ys) zero (suc j) v apart = refl
set_other (y ∷ ys) (suc i) zero v apart = refl
set_other (y ∷ ys) (suc i) (suc j) v apart = set_other ys i j v (λ e. apart (ap suc e))

-- ---- cells of blocks

pub meet_swap : (a b : Option Rect) → meet_in a b ≡ meet_in b a
meet_swap None None = refl
meet_swap None (Some b) = refl
meet_swap (Some a) None = refl
meet_swap (Some a) (Some b) = meets_swap a b

pub no_cells : (block : Option Block) (at : Option (Option Corner)) → at ≡ Some None → cells_at block at ≡ None
no_cells None at e = refl
no_cells (Some b) None e = refl
no_cells (Some b) (Some None) e = refl
no_cells (Some b) (Some (Some c)) e = absurd (cc)

pub none_meets : (b : Option Rect) → meet_in b None ≡ false
none_meets None = refl
none_meets (Some b) = refl

-- the block and the corner of cells
pub posed_parts : (block : Option Block) (corner : Option Corner) (cells : Rect) → posed_at block corner ≡ Some cells
    → (b : Block) × (c : Corner) × (block ≡ Some b) × (corner ≡ Some c) × (cells ≡ rect_at b c)
posed_parts None corner cells e = absurd (cc)
posed_parts (Some b) None cells e = absurd (cc)
posed_parts (Some b) (Some c) cells e = (b, c, refl, refl, cc)

pub some_none : {A : Type 0} (x : A) → Some x ≡ None → ⊥
some_none x e = absurd (cc)

pub is_none_so : {A : Type 0} (o : Option A) → is_none o ≡ true → o ≡ None
is_none_so None e = refl
is_none_so (Some x) e = absurd (cc)

pub corner_itself : (c : Corner) → same_corner c c ≡ true
corner_itself c = and_from (c.x == c.x) (c.y == c.y) (eq-eqb c.x c.x refl) (eq-eqb c.y c.y refl)

-- ---- the moves of steps

module _ (grid : GridFile) where
  abbrev pub names_block : List ℕ → ℕ → Type 0
  names_block word i = position (λ (b : Block). bytes_eq b.name word) grid.blocks ≡ Some i

  pub pick_move : (i : ℕ) (corner : Corner) (b p g c : List ℕ) → names_block b i → pose_of grid p ≡ Some corner
      → move_of grid (record { name = codes "pick"; args = b ∷ p ∷ g ∷ c ∷ [] }) ≡ Some (Pick i corner)
  unfolding move_of
  pick_move i corner b p g c place pose =
      ap (λ o. option_map (λ (t : ℕ × Corner). Pick t.0 t.1) (option_and_then (λ block. option_map (λ corner. (block, corner)) (pose_of grid p)) o)) place
      ∙ ap (λ o. option_map (λ (t : ℕ × Corner). Pick t.0 t.1) (option_map (λ corner. (i, corner)) o)) pose

  pub put_move : (i : ℕ) (corner : Corner) (b p g c : List ℕ) → names_block b i → pose_of grid p ≡ Some corner
      → move_of grid (record { name = codes "put"; args = b ∷ p ∷ g ∷ c ∷ [] }) ≡ Some (Put i corner)
  unfolding move_of
  put_move i corner b p g c place pose =
      ap (λ o. option_map (λ (t : ℕ × Corner). Put t.0 t.1) (option_and_then (λ block. option_map (λ corner. (block, corner)) (pose_of grid p)) o)) place
      ∙ ap (λ o. option_map (λ (t : ℕ × Corner). Put t.0 t.1) (option_map (λ corner. (i, corner)) o)) pose

  -- no two blocks share a cell
  abbrev pub NoneShare : World → Type 0
  NoneShare world = (j k : ℕ) → j ≢ k → share grid world j k ≡ false

  -- where the step lays its block down is in the grid and in no obstacle
  abbrev pub LaysWell : World → Call → Type 0
  LaysWell world call =
      (word : List ℕ) (cells : Rect) → LaysDown grid world call word cells
      → (is_within cells (area grid) ≡ true) × (is_blocked grid cells ≡ false)
