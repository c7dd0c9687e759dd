-- The grid's streams, and the answers to requests by the words of their inputs.
use Rattle.std.proofs.Common.{◌≡◌, ℕ, zero, suc, ◌⊎◌, inl, inr, List, [], ◌∷◌, codes, length, refl, sym, arith, Some, option_to_list, slice_get}
use Rattle.grid_text.specs.Grids.{GridFile}
use Rattle.grid_world.specs.Answers.{answer_to, apart, nth, poses_in, reached}
use Rattle.grid_world.specs.Asks.{ask_to}
use Rattle.grid_world.specs.Words.{block_named, posed, region_named, served_stream, side_of}
use Rattle.play_laws.specs.GridTasks.{clear_stream, grasp_stream, grid_streams, place_stream, reach_stream}
use Rattle.task_model.specs.declared.stream.Stream.{Stream}

-- ---- streams

pub stream_cases : (k : ℕ) (s : Stream) → slice_get grid_streams k ≡ Some s
    → (s ≡ place_stream) ⊎ ((s ≡ grasp_stream) ⊎ ((s ≡ reach_stream) ⊎ (s ≡ clear_stream)))
stream_cases zero s e = let same : place_stream ≡ s = cc in inl (sym same)
stream_cases (suc zero) s e = let same : grasp_stream ≡ s = cc in inr (inl (sym same))
stream_cases (suc (suc zero)) s e = let same : reach_stream ≡ s = cc in inr (inr (inl (sym same)))
stream_cases (suc (suc (suc zero))) s e = let same : clear_stream ≡ s = cc in inr (inr (inr (sym same)))
stream_cases (suc (suc (suc (suc k)))) s e = absurd (cc)

-- the answers to requests to three of them, by the words of their inputs
pub place_reply : (grid : GridFile) (turn : ℕ) (b r : List ℕ)
    → answer_to grid (ask_to turn (b ∷ r ∷ []) (served_stream (codes "place")))
    ≡ nth turn (poses_in grid (block_named grid b) (region_named grid r))
unfolding served_stream
place_reply grid turn b r = refl

pub reach_reply : (grid : GridFile) (turn : ℕ) (b p g : List ℕ)
    → answer_to grid (ask_to turn (b ∷ p ∷ g ∷ []) (served_stream (codes "reach")))
    ≡ nth turn (option_to_list (reached grid (posed grid b p) (side_of g)))
unfolding served_stream
reach_reply grid turn b p g = refl

pub clear_reply : (grid : GridFile) (turn : ℕ) (b p o q : List ℕ)
    → answer_to grid (ask_to turn (b ∷ p ∷ o ∷ q ∷ []) (served_stream (codes "clear")))
    ≡ nth turn (option_to_list (apart grid (posed grid b p) (posed grid o q)))
unfolding served_stream
clear_reply grid turn b p o q = refl

-- ---- lists of so many

pub two_of : (xs : List ℕ) → length xs ≡ 2 → (a : ℕ) × (b : ℕ) × (xs ≡ a ∷ b ∷ [])
two_of [] e = absurd (omega (arith, e))
two_of (a ∷ []) e = absurd (omega (arith, e))
two_of (a ∷ b ∷ []) e = (a, b, refl)
two_of (a ∷ b ∷ c ∷ xs) e = absurd (omega (arith, e))

pub three_of : (xs : List ℕ) → length xs ≡ 3 → (a : ℕ) × (b : ℕ) × (c : ℕ) × (xs ≡ a ∷ b ∷ c ∷ [])
three_of [] e = absurd (omega (arith, e))
three_of (a ∷ []) e = absurd (omega (arith, e))
three_of (a ∷ b ∷ []) e = absurd (omega (arith, e))
three_of (a ∷ b ∷ c ∷ []) e = (a, b, c, refl)
three_of (a ∷ b ∷ c ∷ d ∷ xs) e = absurd (omega (arith, e))

pub four_of : (xs : List ℕ) → length xs ≡ 4 → (a : ℕ) × (b : ℕ) × (c : ℕ) × (d : ℕ) × (xs ≡ a ∷ b ∷ c ∷ d ∷ [])
four_of [] e = absurd (omega (arith, e))
four_of (a ∷ []) e = absurd (omega (arith, e))
four_of (a ∷ b ∷ []) e = absurd (omega (arith, e))
four_of (a ∷ b ∷ c ∷ []) e = absurd (omega (arith, e))
four_of (a ∷ b ∷ c ∷ d ∷ []) e = (a, b, c, d, refl)
four_of (a ∷ b ∷ c ∷ d ∷ f ∷ xs) e = absurd (omega (arith, e))
