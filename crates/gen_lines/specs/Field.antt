-- Where the fields of a line stand.
use Rattle.std.specs.Prelude.{ℕ, ◌<◌, ◌≤◌, ◌≡◌, List, [], ◌∷◌, length, drop, slice_range, Option, Some, None}
use Rattle.gen_lines.specs.declared.fields.Place.{Place}
use Rattle.gen_lines.specs.Reply.{fields}

-- the first field from a place on, and what follows it
pub record IsFieldFrom (line : List ℕ) (from : ℕ) (place : Place) : Type 0 where
  pub ordered : (from ≤ place.start) × (place.start < place.end)
  pub within : place.end ≤ length line
  pub first : fields (drop from line) ≡ slice_range line place.start place.end ∷ fields (drop place.end line)

abbrev pub FieldFrom : List ℕ → ℕ → Option Place → Type 0
FieldFrom line from None = fields (drop from line) ≡ []
FieldFrom line from (Some place) = IsFieldFrom line from place
