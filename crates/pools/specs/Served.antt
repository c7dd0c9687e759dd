-- Which streams are found among a pool's without going through them.
use Rattle.std.specs.Prelude.{◌≡◌, ◌<◌, ◌==◌, ℕ, List, Bool, get_or, length}
use Rattle.std.specs.List.{list_any}

-- a mark says of its stream whether it is one of these
abbrev pub AreStreamsMarked : List ℕ → List Bool → Type 0
AreStreamsMarked streams marks =
    (stream : ℕ) (d : Bool) → stream < length marks → get_or marks stream d ≡ list_any (λ s. s == stream) streams
