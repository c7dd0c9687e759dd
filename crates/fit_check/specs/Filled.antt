-- Flags, seen as the places at which they are up.
use Rattle.std.specs.Prelude.{ℕ, ◌+◌, List, [], ◌∷◌, Bool, true, false}

-- the places of the flags that are up, where the first flag has this place
abbrev pub places_up : ℕ → List Bool → List ℕ
places_up n [] = []
places_up n (true ∷ flags) = n ∷ places_up (n + 1) flags
places_up n (false ∷ flags) = places_up (n + 1) flags
