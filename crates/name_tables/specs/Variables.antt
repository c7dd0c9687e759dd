-- Groups of names or variables with types: what they name, and their name faults.
use Rattle.std.specs.Prelude.{ℕ, zero, suc, ◌+◌, Bool, true, false, not, ◌==◌, if◌then◌else◌, List, [], ◌∷◌, ◌++◌, unwrap_or}
use Rattle.sexpr_text.specs.Trees.{Trees, nothing, word, list}
use Rattle.form_reader.specs.declared.fault.Fault.{Fault}
use Rattle.form_reader.specs.declared.fault.InputKind.{InputKind}
use Rattle.form_reader.specs.declared.fault.InputKind.TheVariants.{Unknown, Duplicate, TooMany}
use Rattle.form_reader.specs.declared.groups.Spot.{Spot}
use Rattle.form_reader.specs.declared.groups.Spot.TheVariants.{Start, Named, Typed}
use Rattle.form_reader.specs.Rows.{after_word, is_dash}
use Rattle.name_tables.specs.Names.{has_name, table_place, with_table_name}
use Rattle.task_model.specs.declared.limits.TheConstants.{SLOTS}

-- the fault, unless the test holds
abbrev pub unless : Bool → InputKind → ℕ → List Fault
unless true kind place = []
unless false kind place = record { place = place; kind = kind } ∷ []

-- the word is a name or a variable, and not a `-` or a type
abbrev pub is_named : Spot → List ℕ → Bool
is_named Start text = true
is_named Named text = not (is_dash text)
is_named Typed text = false

abbrev pub is_type : Spot → Bool
is_type Start = false
is_type Named = false
is_type Typed = true

-- the names or variables in order, each as often as it is written
abbrev pub named_words : Spot → Trees → List (List ℕ)
named_words spot nothing = []
named_words spot (word text at rest) =
    if is_named spot text then text ∷ named_words (after_word spot text) rest
    else named_words (after_word spot text) rest
named_words spot (list items at rest) = []

-- so many copies of a number
abbrev pub copies : ℕ → ℕ → List ℕ
copies zero n = []
copies (suc k) n = n ∷ copies k n

-- the place of a type among the types
abbrev pub sort_of : List (List ℕ) → List ℕ → ℕ
sort_of sorts text = unwrap_or (table_place text sorts) 0

-- The types of these, in order: the type behind `-` belongs to all names since the last type, so many are waiting. A
-- name without a type has type `object`, which is the type 0.
abbrev pub named_sorts : List (List ℕ) → Spot → ℕ → Trees → List ℕ
named_sorts sorts spot waiting nothing = copies waiting 0
named_sorts sorts spot waiting (word text at rest) =
    if is_type spot then copies waiting (sort_of sorts text) ++ named_sorts sorts Start 0 rest
    else (if is_named spot text then named_sorts sorts Named (waiting + 1) rest
    else named_sorts sorts Typed waiting rest)
named_sorts sorts spot waiting (list items at rest) = copies waiting 0

-- of one word, which is there if it is a type
abbrev pub type_names : List (List ℕ) → Spot → List ℕ → ℕ → List Fault
type_names sorts spot text at = if is_type spot then unless (has_name text sorts) Unknown at else []

-- each type is there
abbrev pub types_names : List (List ℕ) → Spot → Trees → List Fault
types_names sorts spot nothing = []
types_names sorts spot (word text at rest) =
    type_names sorts spot text at ++ types_names sorts (after_word spot text) rest
types_names sorts spot (list items at rest) = []

-- the variables that were seen, with this word if it is one
abbrev pub seen_with : List (List ℕ) → Spot → List ℕ → List (List ℕ)
seen_with seen spot text = if is_named spot text then with_table_name seen text else seen

-- the variables that were seen, with all of these
abbrev pub seen_after : List (List ℕ) → Spot → Trees → List (List ℕ)
seen_after seen spot nothing = seen
seen_after seen spot (word text at rest) =
    seen_after (seen_with seen spot text) (after_word spot text) rest
seen_after seen spot (list items at rest) = seen

-- no variable stands twice, where these were seen before
abbrev pub doubles_names : List (List ℕ) → Spot → Trees → List Fault
doubles_names seen spot nothing = []
doubles_names seen spot (word text at rest) =
    (if is_named spot text then unless (not (has_name text seen)) Duplicate at else [])
    ++ doubles_names (seen_with seen spot text) (after_word spot text) rest
doubles_names seen spot (list items at rest) = []

-- no more variables are in scope than there are slots, where so many are in scope before it
abbrev pub scope_names : ℕ → Spot → Trees → List Fault
scope_names size spot nothing = []
scope_names size spot (word text at rest) =
    (if is_named spot text then unless (not (size == SLOTS)) TooMany at else [])
    ++ scope_names (if is_named spot text then size + 1 else size) (after_word spot text) rest
scope_names size spot (list items at rest) = []

-- of a list of variables, where so many are in scope around it
abbrev pub variables_names : List (List ℕ) → ℕ → Trees → List Fault
variables_names sorts size items =
    types_names sorts Start items ++ doubles_names [] Start items ++ scope_names size Start items
