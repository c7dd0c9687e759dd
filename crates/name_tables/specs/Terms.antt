-- Terms, atoms and function terms: their name faults and what they are.
use Rattle.std.specs.Prelude.{ℕ, ◌+◌, false, ◌||◌, ◌==◌, List, [], ◌∷◌, ◌++◌, Option, Some, None, unwrap_or}
use Rattle.sexpr_text.specs.Trees.{Trees, nothing, word, list}
use Rattle.task_model.specs.declared.condition.Term.{Term}
use Rattle.task_model.specs.declared.condition.Term.TheVariants.{Slot, Object}
use Rattle.task_model.specs.declared.domain.Pattern.{Pattern}
use Rattle.form_reader.specs.declared.fault.Fault.{Fault}
use Rattle.form_reader.specs.declared.fault.InputKind.TheVariants.{Unknown, Arity}
use Rattle.form_reader.specs.Rows.{head_of, tail_of}
use Rattle.name_tables.specs.Names.{Signed, has_name, last_place, table_place}
use Rattle.name_tables.specs.Variables.{unless}
use Rattle.name_tables.specs.Vocabulary.{arity_of}
use Rattle.name_tables.specs.declared.vocabulary.Vocabulary.{Vocabulary}

-- how many words and lists stand in a row
abbrev pub width : Trees → ℕ
width nothing = 0
width (word text at rest) = width rest + 1
width (list items at rest) = width rest + 1

-- each term is a variable in scope or an object
abbrev pub terms_names : (objects scope : List (List ℕ)) → Trees → List Fault
terms_names objects scope nothing = []
terms_names objects scope (word text at rest) =
    unless (has_name text scope || has_name text objects) Unknown at
    ++ terms_names objects scope rest
terms_names objects scope (list items at rest) = terms_names objects scope rest

-- the name is declared, and with so many arguments: the word's place and the list's
abbrev pub use_names : Option ℕ → (count at place : ℕ) → List Fault
use_names None count at place = unless false Unknown at
use_names (Some arity) count at place = unless (arity == count) Arity place

-- an atom or a function term, as the list at this place
abbrev pub application_names : Signed → (objects scope : List (List ℕ)) → ℕ → Trees → List Fault
application_names declared objects scope place nothing = []
application_names declared objects scope place (word text at rest) =
    use_names (arity_of declared text) (width rest) at place ++ terms_names objects scope rest
application_names declared objects scope place (list items at rest) = []

-- a variable is the innermost of its name, by its slot, and else the word is an object
abbrev pub term_by : Option ℕ → Option ℕ → Term
term_by (Some slot) object = Slot slot
term_by None object = Object (unwrap_or object 0)

abbrev pub term_of : (objects scope : List (List ℕ)) → List ℕ → Term
term_of objects scope text = term_by (last_place 0 None text scope) (table_place text objects)

abbrev pub terms_of : (objects scope : List (List ℕ)) → Trees → List Term
terms_of objects scope nothing = []
terms_of objects scope (word text at rest) =
    term_of objects scope text ∷ terms_of objects scope rest
terms_of objects scope (list items at rest) = terms_of objects scope rest

-- the place of a declared name
abbrev pub declared_place : Signed → List ℕ → ℕ
declared_place declared text = unwrap_or (table_place text declared.names) 0

-- the atom that a list of these trees is
abbrev pub pattern_of : Vocabulary → List (List ℕ) → Trees → Pattern
pattern_of v scope items =
    record { pred = declared_place v.predicates (head_of items); args = terms_of v.objects scope (tail_of items) }
