-- Numbers that lead to numbers.
use Rattle.std.specs.Prelude.{◌≡◌, ℕ, ◌==◌, Bool, true, false, nat_lt, if◌then◌else◌, List, [], ◌∷◌, ◌++◌, slice_get, unwrap_or}
use Rattle.lemmas.specs.Lists.{LeadsAlong, has_number}

-- the numbers, and this one last where it is new
abbrev pub with_number : List ℕ → ℕ → List ℕ
with_number ns n = if has_number ns n then ns else ns ++ n ∷ []

abbrev pub with_numbers : List ℕ → List ℕ → List ℕ
with_numbers ns [] = ns
with_numbers ns (m ∷ ms) = with_numbers (with_number ns m) ms

-- what a number leads to in one step
abbrev pub next_of : List (List ℕ) → ℕ → List ℕ
next_of edges n = unwrap_or (slice_get edges n) []

abbrev pub has_edge : List (List ℕ) → ℕ → ℕ → Bool
has_edge edges a b = has_number (next_of edges a) b

-- there is a way from the one to the other, in one step or more
pub record HasWay (edges : List (List ℕ)) (a b : ℕ) : Type 0 where
  pub between : List ℕ
  pub steps : LeadsAlong (has_edge edges) a between b

-- The list has exactly the numbers to which there is a way.
pub record AreReached (edges : List (List ℕ)) (a : ℕ) (reached : List ℕ) : Type 0 where
  pub only : (b : ℕ) → has_number reached b ≡ true → HasWay edges a b
  pub all : (b : ℕ) (between : List ℕ) → LeadsAlong (has_edge edges) a between b
      → has_number reached b ≡ true

-- ascending numbers with one more, unless it is there
abbrev pub ascending_with : List ℕ → ℕ → List ℕ
ascending_with [] n = n ∷ []
ascending_with (m ∷ ms) n =
    if nat_lt n m then n ∷ m ∷ ms else (if n == m then m ∷ ms else m ∷ ascending_with ms n)

-- the numbers of a list, ascending, each once
abbrev pub ascending : List ℕ → List ℕ → List ℕ
ascending so_far [] = so_far
ascending so_far (n ∷ ns) = ascending (ascending_with so_far n) ns

-- whether there is a way from a number back to itself
abbrev pub IsCyclic : List (List ℕ) → ℕ → Bool → Type 0
IsCyclic edges n true = HasWay edges n n
IsCyclic edges n false = ¬ (HasWay edges n n)
