-- The objects that values from a generator stand for.
use Rattle.std.specs.Prelude.{◌≡◌, ℕ, List, map, Some, slice_get}
use Rattle.transcript_model.specs.Names.{generated}

-- each object has the name of its value
abbrev pub AreNamed : List (List ℕ) → List ℕ → List (List ℕ) → Type 0
AreNamed names objects values =
    map (slice_get names) objects ≡ map (λ value. Some (generated value)) values
