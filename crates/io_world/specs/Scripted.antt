-- What a scripted child says.
use Rattle.std.specs.Prelude.{ℕ, List, []}

-- the bytes that a child gives, the most that each read gives, and the needs: from a place on bytes
-- are given only after so many line feeds were written to a child
pub record Scripted : Type 0 where
  pub bytes : List ℕ
  pub cuts : List ℕ
  pub needs : List (ℕ × ℕ × ℕ)

abbrev pub no_script : Scripted
no_script = record { bytes = []; cuts = []; needs = [] }
