-- A text as its lines, and a line as its fields.
use Rattle.std.specs.Prelude.{ℕ, ◌==◌, Bool, true, false, List, [], ◌∷◌, map, Option, None, Some}
use Rattle.std.specs.List.{slice_split}
use Rattle.std.specs.Borrow.{Bor}
use Rattle.gen_lines.specs.Reply.{is_space}
use Rattle.report_text.specs.Faults.{whole_lines}
use Rattle.report_text.specs.Texts.{Line}

-- the lines that end with a line feed, each as its fields: what stands between its spaces
abbrev pub field_lines : List ℕ → List (List (List ℕ))
field_lines bytes = map (slice_split is_space) (whole_lines bytes)

-- all fields of a line
abbrev pub fields_of : Line → List (List ℕ)
fields_of l = l.first ∷ l.more

-- the fields of what is left of a line; none where nothing is left
abbrev pub fields_left : Option (Bor (List ℕ)) → List (List ℕ)
fields_left None = []
fields_left (Some rest) = slice_split is_space rest.now

-- empty, or a zero and more
abbrev pub has_needless_zero : List ℕ → Bool
has_needless_zero [] = true
has_needless_zero (b ∷ []) = false
has_needless_zero (b ∷ c ∷ more) = b == 48
