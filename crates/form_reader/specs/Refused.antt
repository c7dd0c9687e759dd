-- Lists that are left out wherever they stand in `:init`, or in a stream's atoms.
use Rattle.std.specs.Prelude.{ℕ, Bool, true, false, ◌&&◌, ◌||◌, if◌then◌else◌, List, [], ◌∷◌, ◌++◌, codes}
use Rattle.std.specs.Str.{bytes_eq}
use Rattle.sexpr_text.specs.Trees.{Trees, nothing, word, list}
use Rattle.form_reader.specs.declared.fault.Fault.{Fault}
use Rattle.form_reader.specs.declared.refused.Region.{Region}
use Rattle.form_reader.specs.declared.refused.Region.TheVariants.{Init, Atoms}
use Rattle.form_reader.specs.Faults.{unsupported}
use Rattle.form_reader.specs.Rows.{head_of}
use Rattle.form_reader.specs.Words.{begins_with_digit, is_refused_in_atoms}

abbrev pub is_end : Trees → Bool
is_end nothing = true
is_end (word text at rest) = false
is_end (list items at rest) = false

-- one list, and nothing more
abbrev pub is_one_list : Trees → Bool
is_one_list nothing = false
is_one_list (word text at rest) = false
is_one_list (list items at rest) = is_end rest

-- a time and a list
abbrev pub is_time_and_list : Trees → Bool
is_time_and_list nothing = false
is_time_and_list (word text at rest) = begins_with_digit text && is_one_list rest
is_time_and_list (list items at rest) = false

-- `(at TIME (..))`, a timed literal
abbrev pub is_timed : Trees → Bool
is_timed nothing = false
is_timed (word text at rest) = bytes_eq text (codes "at") && is_time_and_list rest
is_timed (list items at rest) = false

abbrev pub is_refused : Region → Trees → Bool
is_refused Init items = bytes_eq (head_of items) (codes "not") || is_timed items
is_refused Atoms items = is_refused_in_atoms (head_of items)

-- of a list in this region, if it is left out
abbrev pub refused_here : Region → ℕ → Trees → List Fault
refused_here region place items = if is_refused region items then unsupported place ∷ [] else []

-- of all lists in a row, and of those in them
abbrev pub refused_faults : Region → Trees → List Fault
refused_faults region nothing = []
refused_faults region (word text at rest) = refused_faults region rest
refused_faults region (list items at rest) =
    refused_here region at items ++ refused_faults region items ++ refused_faults region rest
