-- Bytes that are held until the line feed of their line comes.
use Rattle.std.specs.Prelude.{◌≡◌, ◌⊎◌, ℕ, ◌<◌, ◌==◌, Bool, false, List, [], length, Option}
use Rattle.std.specs.List.{list_any}
use Rattle.std.specs.Io.KnownBytes.{Appends}

-- whether a line ends among the bytes
abbrev pub ends_line : List ℕ → Bool
ends_line bytes = list_any (λ b. b == 10) bytes

-- What is held ends no line, and there is room for more.
pub record IsHeld (bytes : List ℕ) : Type 0 where
  pub unfinished : ends_line bytes ≡ false
  pub room : length bytes < 4096

-- All that there was to pass on was written, and nothing is held, or it is held, ends no line, and nothing was written.
abbrev pub IsPassedOn : Option (List ℕ) → Option (List ℕ) → List ℕ → List ℕ → Type 0
IsPassedOn old new all held =
    ((held ≡ []) × Appends old new all) ⊎ ((held ≡ all) × (ends_line all ≡ false) × (new ≡ old))
