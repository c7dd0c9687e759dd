-- Function terms with two different values.
use Rattle.std.specs.Prelude.{ℕ, Bool, true, false, ◌==◌, not, if◌then◌else◌, List, [], ◌∷◌, ◌++◌, Option, Some, None, slice_get}
use Rattle.std.specs.Str.Parse.{digits_value}
use Rattle.sexpr_text.specs.Trees.{Trees, nothing, word, list}
use Rattle.form_reader.specs.declared.fault.Fault.{Fault}
use Rattle.form_reader.specs.declared.fault.InputKind.TheVariants.{Duplicate}
use Rattle.form_reader.specs.declared.items.Item.{Item}
use Rattle.form_reader.specs.declared.items.Item.TheVariants as item
use Rattle.form_reader.specs.declared.items.TextKind.TheVariants as text
use Rattle.form_reader.specs.Items.{item_of}
use Rattle.form_reader.specs.Rows.{head_of, inner_of, tail_of}
use Rattle.task_model.specs.Numbers.{is_number}
use Rattle.name_tables.specs.Names.{has_name, table_place}
use Rattle.name_tables.specs.Variables.{unless}
use Rattle.problem_reader.specs.Names.{is_worth}

abbrev pub is_init : Item → Bool
is_init item.Init = true
is_init _ = false

-- ---- of a list `(= TERM NUMBER)`

-- the words of the term
abbrev pub term_in : Trees → Trees
term_in items = inner_of (tail_of items)

abbrev pub number_in : List ℕ → ℕ
number_in w = if is_number w then digits_value 10 w else 0

-- the number
abbrev pub value_in : Trees → ℕ
value_in items = number_in (head_of (tail_of (tail_of items)))

-- How a term is written, with one space behind each word. No word has a space, so that terms are the same exactly where
-- this is.
abbrev pub spelled_term : Trees → List ℕ
spelled_term nothing = []
spelled_term (word w at rest) = w ++ 32 ∷ spelled_term rest
spelled_term (list items at rest) = spelled_term rest

-- ---- values that were given so far

-- terms as they are written, and at the same place in the other list the first value of each
pub record Given : Type 0 where
  pub terms : List (List ℕ)
  pub values : List ℕ

abbrev pub nothing_given : Given
nothing_given = record { terms = []; values = [] }

abbrev pub given_value : Given → Option ℕ → Option ℕ
given_value g None = None
given_value g (Some place) = slice_get g.values place

abbrev pub value_of_term : Given → List ℕ → Option ℕ
value_of_term g term = given_value g (table_place term g.terms)

-- the first value of a term stays
abbrev pub with_term_value : Given → List ℕ → ℕ → Given
with_term_value g term value =
    if has_name term g.terms then g else record { terms = g.terms ++ term ∷ []; values = g.values ++ value ∷ [] }

-- ---- the faults

-- a value that isn't the term's first one
abbrev pub differs : Option ℕ → ℕ → Bool
differs None value = false
differs (Some before) value = not (before == value)

-- of a fact, which is the list at this place
abbrev pub problem_value_names : Given → ℕ → Trees → List Fault
problem_value_names g place items =
    if is_worth items
    then unless (not (differs (value_of_term g (spelled_term (term_in items))) (value_in items))) Duplicate place else []

abbrev pub value_put : Given → Trees → Given
value_put g items =
    if is_worth items then with_term_value g (spelled_term (term_in items)) (value_in items) else g

-- of facts in a row
abbrev pub row_names : Given → Trees → List Fault
row_names g nothing = []
row_names g (word w at rest) = row_names g rest
row_names g (list items at rest) = problem_value_names g at items ++ row_names (value_put g items) rest

abbrev pub row_put : Given → Trees → Given
row_put g nothing = g
row_put g (word w at rest) = row_put g rest
row_put g (list items at rest) = row_put (value_put g items) rest

-- of all `:init` items
abbrev pub values_names : Given → Trees → List Fault
values_names g nothing = []
values_names g (word w at rest) = values_names g rest
values_names g (list items at rest) =
    (if is_init (item_of text.Problem (head_of items)) then row_names g (tail_of items) else [])
    ++ values_names (if is_init (item_of text.Problem (head_of items)) then row_put g (tail_of items) else g) rest
