-- Texts that are written to a sink piece by piece.
use Rattle.std.specs.Prelude.{ℕ, ◌<◌, List, length, take, Option, Result, Ok, Err}
use Rattle.std.specs.Io.KnownBytes.{Appends}

-- Of these bytes the sink took the first, and not all.
pub record CutOff (old new : Option (List ℕ)) (bytes : List ℕ) : Type 0 where
  pub count : ℕ
  pub less : count < length bytes
  pub took : Appends old new (take count bytes)

-- All of these bytes were taken; or there was a fault, and the sink took a part.
abbrev pub Prints : {T E : Type 0} → Result T E → Option (List ℕ) → Option (List ℕ) → List ℕ → Type 0
Prints (Ok x) old new bytes = Appends old new bytes
Prints (Err fault) old new bytes = CutOff old new bytes
