-- The parts of a text: its items, and the values of keys.
use Rattle.std.specs.Prelude.{ℕ, not, if◌then◌else◌, List, [], ◌++◌}
use Rattle.std.specs.Str.{bytes_eq}
use Rattle.sexpr_text.specs.Trees.{Trees, nothing, word, list}
use Rattle.form_reader.specs.declared.fault.Fault.{Fault}
use Rattle.form_reader.specs.declared.fault.InputKind.TheVariants.{Duplicate}
use Rattle.form_reader.specs.Rows.{inner_of, tail_of}
use Rattle.name_tables.specs.Names.{has_name, with_table_name}
use Rattle.name_tables.specs.Variables.{unless}

-- the items of a text that is this row of one tree
abbrev pub body_of : Trees → Trees
body_of t = tail_of (tail_of (inner_of t))

-- the value of the first key that is this word, nothing where there is none
abbrev pub value_at : List ℕ → Trees → Trees
value_at key nothing = nothing
value_at key (word text at rest) = if bytes_eq text key then inner_of rest else value_at key rest
value_at key (list items at rest) = value_at key rest

-- no word stands twice in a row, where these were seen before
abbrev pub repeated_names : List (List ℕ) → Trees → List Fault
repeated_names seen nothing = []
repeated_names seen (word text at rest) =
    unless (not (has_name text seen)) Duplicate at ++ repeated_names (with_table_name seen text) rest
repeated_names seen (list items at rest) = repeated_names seen rest
