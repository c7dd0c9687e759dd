-- The places that a listing gives to numbers, from 1.
use Rattle.std.specs.Prelude.{◌≡◌, ℕ, zero, suc, List, ◌∷◌, [], ◌++◌, length, Bool, true, false, ltb, Option, None, Some, slice_get, slice_index_or}
use Rattle.plan_deorder.specs.Orders.{IsOrderListing, Pair}

-- the place of a number, where it has one
abbrev pub place_of_number : List (Option ℕ) → ℕ → Option ℕ
place_of_number places zero = None
place_of_number places (suc n) = slice_index_or places n None

-- These are the places of the numbers in the listing, and each number of it has one.
pub record ArePlaces (listing : List ℕ) (places : List (Option ℕ)) : Type 0 where
  pub found : (k n : ℕ) → slice_get listing k ≡ Some n → place_of_number places n ≡ Some k
  pub there : (n k : ℕ) → place_of_number places n ≡ Some k → slice_get listing k ≡ Some n

-- They are those of the listing with the number behind it; or no listing begins so that has each number once.
abbrev pub IsNumberNoted : List ℕ → ℕ → List (Option ℕ) → Bool → Type 0
IsNumberNoted listing number places true = ArePlaces (listing ++ number ∷ []) places
IsNumberNoted listing number places false = (more : List ℕ) → ¬ (IsOrderListing (length places) (listing ++ number ∷ more))

-- the first place is less, where there are two
abbrev pub is_less : Option ℕ → Option ℕ → Bool
is_less (Some k) (Some l) = ltb k l
is_less (Some k) None = true
is_less None l = true

-- the first number of the pair stands before the second, where both have a place
abbrev pub is_pair_kept : List (Option ℕ) → Pair → Bool
is_pair_kept places pair = is_less (place_of_number places pair.0) (place_of_number places pair.1)
