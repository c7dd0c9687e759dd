-- The generator in the process.
use Rattle.std.specs.Prelude.{◌≡◌, ℕ, ◌<◌, ◌^◌, ◌⊎◌, List, [], ◌∷◌, codes, length, Option, Some, None}
use Rattle.grid_text.specs.Files.{BlamesGridText, IsGridOf}
use Rattle.grid_text.specs.Grids.{GridFile}
use Rattle.grid_text.specs.declared.fault.GridFault.TheVariants.{At}
use Rattle.grid_text.specs.declared.fault.GridKind.{GridKind}
use Rattle.grid_world.specs.Sessions.{SessionState, left_of, new_session}

pub record GeneratorState : Type 0 where
  pub session : Option SessionState
  pub faults : ℕ

-- the text of a grid behind the word `@grid`, shorter than 2^31 bytes
pub record AreGridWords (words : List (List ℕ)) (text : List ℕ) : Type 0 where
  pub words_are : words ≡ codes "@grid" ∷ text ∷ []
  pub short : length text < 2 ^ 31

-- the words hold a grid, and nothing was said yet
pub record StartsGrid (words : List (List ℕ)) (session : Option SessionState) : Type 0 where
  pub text : List ℕ
  pub is : AreGridWords words text
  pub grid : GridFile
  pub read : IsGridOf text grid
  pub session_is : session ≡ Some (new_session grid)

-- the words are other words, or the text is too long or no grid
abbrev pub RefusesStart : List (List ℕ) → Type 0
RefusesStart words =
    ((text : List ℕ) → ¬ (AreGridWords words text))
    ⊎ ((text : List ℕ) × (line : ℕ) × (kind : GridKind) × AreGridWords words text × BlamesGridText text (At line kind))

-- all answers were given
abbrev pub NothingLeft : Option SessionState → Type 0
NothingLeft None = ⊥
NothingLeft (Some session) = left_of session ≡ []
