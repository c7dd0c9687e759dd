-- Words of steps.
use Rattle.std.proofs.Common.{◌≡◌, ℕ, ◌<◌, ◌≤◌, List, [], ◌∷◌, length, get_or, position, sym, ap, ◌∙◌, arith, None, option_map, option_and_then}
use Rattle.std.specs.Str.{bytes_eq}
use Rattle.grid_text.specs.Entries.{four_of}
use Rattle.grid_text.specs.Grids.{GridFile}
use Rattle.grid_text.specs.declared.grid.Block.{Block}
use Rattle.grid_world.specs.Words.{pose_of}
use Rattle.grid_play.specs.Worlds.{target_of}

-- four words of which the first names no block
pub no_target : (grid : GridFile) (words : List (List ℕ)) (block : List ℕ) → 4 ≤ length words → length words < 5
    → block ≡ get_or words 0 block → position (λ (b : Block). bytes_eq b.name block) grid.blocks ≡ None
    → target_of grid (four_of words) ≡ None
no_target grid [] block many few is none = absurd (omega (arith, many))
no_target grid (a ∷ []) block many few is none = absurd (omega (arith, many))
no_target grid (a ∷ b ∷ []) block many few is none = absurd (omega (arith, many))
no_target grid (a ∷ b ∷ c ∷ []) block many few is none = absurd (omega (arith, many))
no_target grid (a ∷ b ∷ c ∷ d ∷ []) block many few is none =
    ap (λ w. option_and_then (λ i. option_map (λ corner. (i, corner)) (pose_of grid b))
    (position (λ (x : Block). bytes_eq x.name w) grid.blocks)) (sym is)
    ∙ ap (option_and_then (λ i. option_map (λ corner. (i, corner)) (pose_of grid b))) none
no_target grid (a ∷ b ∷ c ∷ d ∷ e ∷ more) block many few is none = absurd (omega (arith, few))
