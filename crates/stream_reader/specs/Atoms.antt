-- The atoms of streams: their name faults, and what they are (PDDLStream 2020).
use Rattle.std.specs.Prelude.{ℕ, Bool, true, false, not, if◌then◌else◌, List, [], ◌∷◌, ◌++◌, codes, Option, Some, None, slice_get}
use Rattle.std.specs.Str.{bytes_eq}
use Rattle.sexpr_text.specs.Trees.{Trees, nothing, word, list}
use Rattle.task_model.specs.declared.domain.Pattern.{Pattern}
use Rattle.task_model.specs.declared.domain.Role.{Role}
use Rattle.task_model.specs.declared.domain.Role.TheVariants.{Static, Fluent, Derived}
use Rattle.form_reader.specs.declared.fault.Fault.{Fault}
use Rattle.form_reader.specs.declared.fault.InputKind.TheVariants.{EffectOnStatic}
use Rattle.form_reader.specs.Rows.{head_of}
use Rattle.name_tables.specs.Names.{table_place}
use Rattle.name_tables.specs.Terms.{application_names, pattern_of}
use Rattle.name_tables.specs.Variables.{unless}
use Rattle.name_tables.specs.declared.vocabulary.Vocabulary.{Vocabulary}

-- whether actions or rules change the atoms of a predicate with this role, if it is there
abbrev pub is_changing : Option Role → Bool
is_changing None = false
is_changing (Some Static) = false
is_changing (Some Fluent) = true
is_changing (Some Derived) = true

abbrev pub role_at : List Role → Option ℕ → Option Role
role_at roles None = None
role_at roles (Some place) = slice_get roles place

module _ (v : Vocabulary) (roles : List Role) (scope : List (List ℕ)) where
  -- an atom, as the list at this place
  abbrev pub stream_atom_names : ℕ → Trees → List Fault
  stream_atom_names place items =
      application_names v.predicates v.objects scope place items
      ++ unless (not (is_changing (role_at roles (table_place (head_of items) v.predicates.names)))) EffectOnStatic
      place

  abbrev mutual
    -- atoms in a row
    pub atom_rows_names : Trees → List Fault
    atom_rows_names nothing = []
    atom_rows_names (word text at rest) = atom_rows_names rest
    atom_rows_names (list items at rest) = atoms_names at items ++ atom_rows_names rest

    -- the atoms that the list at a place is
    pub atoms_names : ℕ → Trees → List Fault
    atoms_names place nothing = []
    atoms_names place (word text at rest) =
        if bytes_eq text (codes "and") then atom_rows_names rest else stream_atom_names place (word text at rest)
    atoms_names place (list items at rest) = []

module _ (v : Vocabulary) (scope : List (List ℕ)) where
  -- the atoms in the order of the text
  abbrev mutual
    pub row_patterns : Trees → List Pattern
    row_patterns nothing = []
    row_patterns (word text at rest) = row_patterns rest
    row_patterns (list items at rest) = patterns_of items ++ row_patterns rest

    pub patterns_of : Trees → List Pattern
    patterns_of nothing = []
    patterns_of (word text at rest) =
        if bytes_eq text (codes "and") then row_patterns rest else pattern_of v scope (word text at rest) ∷ []
    patterns_of (list items at rest) = []
