-- Names and their places in tables.
use Rattle.std.specs.Prelude.{ℕ, ◌+◌, Bool, if◌then◌else◌, List, [], ◌∷◌, ◌++◌, Option, Some, position}
use Rattle.std.specs.List.{list_any}
use Rattle.std.specs.Str.{bytes_eq}

-- the place of a name in a table, counted from 0
abbrev pub table_place : List ℕ → List (List ℕ) → Option ℕ
table_place name names = position (bytes_eq name) names

abbrev pub has_name : List ℕ → List (List ℕ) → Bool
has_name name names = list_any (bytes_eq name) names

-- the table with this name, which goes last where it is new
abbrev pub with_table_name : List (List ℕ) → List ℕ → List (List ℕ)
with_table_name names name = if has_name name names then names else names ++ name ∷ []

-- the last place of a name from this place on, or else the one so far
abbrev pub last_place : ℕ → Option ℕ → List ℕ → List (List ℕ) → Option ℕ
last_place at so_far name [] = so_far
last_place at so_far name (n ∷ ns) =
    last_place (at + 1) (if bytes_eq n name then Some at else so_far) name ns

-- declared names, each with its number of arguments
pub record Signed : Type 0 where
  pub names : List (List ℕ)
  pub arities : List ℕ

-- the first declaration of a name counts
abbrev pub with_signature : Signed → List ℕ → ℕ → Signed
with_signature s name arity =
    if has_name name s.names then s else record { names = s.names ++ name ∷ []; arities = s.arities ++ arity ∷ [] }
