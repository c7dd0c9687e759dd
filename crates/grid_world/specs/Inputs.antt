-- Lists of a stated number of fields.
use Rattle.std.specs.Prelude.{ℕ, List, [], ◌∷◌, Option, Some, None}

abbrev pub one_of : List (List ℕ) → Option (List ℕ)
one_of [] = None
one_of (a ∷ []) = Some a
one_of (a ∷ b ∷ more) = None

abbrev pub two_of : List (List ℕ) → Option (List ℕ × List ℕ)
two_of [] = None
two_of (a ∷ []) = None
two_of (a ∷ b ∷ []) = Some (a, b)
two_of (a ∷ b ∷ c ∷ more) = None

abbrev pub three_of : List (List ℕ) → Option (List ℕ × List ℕ × List ℕ)
three_of [] = None
three_of (a ∷ []) = None
three_of (a ∷ b ∷ []) = None
three_of (a ∷ b ∷ c ∷ []) = Some (a, b, c)
three_of (a ∷ b ∷ c ∷ d ∷ more) = None
