-- Lines taken out of bytes that come in pieces.
use Rattle.std.specs.Prelude.{◌≡◌, ℕ, List, [], ◌∷◌, ◌++◌}
use Rattle.std.specs.List.{after_first}
use Rattle.gen_lines.specs.Lines.{is_feed, lines_of, unfinished}

-- Of all bytes that were pushed these lines were taken and these bytes are held, after any pushes and takes in any
-- order.
pub data Cut : List ℕ → List (List ℕ) → List ℕ → Type 0 where
  fresh : Cut [] [] []
  pushed : {all : List ℕ} {taken : List (List ℕ)} {held : List ℕ} → Cut all taken held
      → (bytes : List ℕ)
      → Cut (all ++ bytes) taken (held ++ bytes)
  took : {all : List ℕ} {taken : List (List ℕ)} {held : List ℕ} {line : List ℕ} → Cut all taken held
      → lines_of held ≡ line ∷ lines_of (after_first is_feed held)
      → Cut all (taken ++ line ∷ []) (after_first is_feed held)

-- The lines taken and those that are held are the lines of all bytes, whatever comes later; so is what follows the last
-- line, and that is held where no line is.
pub record IsWhole (all : List ℕ) (taken : List (List ℕ)) (held : List ℕ) : Type 0 where
  pub lines : (later : List ℕ) → lines_of (all ++ later) ≡ taken ++ lines_of (held ++ later)
  pub rest : (later : List ℕ) → unfinished (all ++ later) ≡ unfinished (held ++ later)
  pub remains : lines_of held ≡ [] → unfinished all ≡ held
