-- The name faults of a domain's items, but for cycles.
use Rattle.std.specs.Prelude.{ℕ, Bool, true, false, ◌&&◌, ◌||◌, ◌==◌, not, nat_le, if◌then◌else◌, List, [], ◌++◌, length, codes}
use Rattle.sexpr_text.specs.Trees.{Trees, nothing, word, list, place_of_first}
use Rattle.form_reader.specs.declared.fault.Fault.{Fault}
use Rattle.form_reader.specs.declared.fault.InputKind.TheVariants.{Arity, Duplicate, TooMany}
use Rattle.form_reader.specs.declared.groups.Spot.TheVariants.{Start}
use Rattle.form_reader.specs.declared.items.Item.{Item}
use Rattle.form_reader.specs.declared.items.Item.TheVariants as item
use Rattle.form_reader.specs.declared.items.TextKind.{TextKind}
use Rattle.form_reader.specs.declared.items.TextKind.TheVariants.{Domain}
use Rattle.form_reader.specs.declared.keys.Key.{Key}
use Rattle.form_reader.specs.declared.keys.Key.TheVariants as key
use Rattle.form_reader.specs.declared.keys.Keyed.TheVariants.{Action}
use Rattle.form_reader.specs.Effects.{is_total_cost}
use Rattle.form_reader.specs.Items.{item_of}
use Rattle.form_reader.specs.Keys.{key_of}
use Rattle.form_reader.specs.Rows.{head_of, tail_of}
use Rattle.name_tables.specs.Conditions.{condition_names, conditions_names}
use Rattle.name_tables.specs.Names.{has_name, with_table_name}
use Rattle.name_tables.specs.Terms.{use_names}
use Rattle.name_tables.specs.Texts.{repeated_names, value_at}
use Rattle.name_tables.specs.Variables.{doubles_names, named_words, scope_names, types_names, unless, variables_names}
use Rattle.name_tables.specs.Vocabulary.{arity_of}
use Rattle.name_tables.specs.declared.vocabulary.Vocabulary.{Vocabulary}
use Rattle.domain_reader.specs.declared.once.Declared.{Declared}
use Rattle.domain_reader.specs.declared.once.Declared.TheVariants.{Predicates, Functions}
use Rattle.domain_reader.specs.Effects.{effect_names}
use Rattle.domain_reader.specs.Tables.{headed, is_derived_item}

-- ---- declarations

-- the variables of a declaration, which is the list at this place: at most 8, each once, of types that are there
abbrev pub declaration_names : List (List ℕ) → ℕ → Trees → List Fault
declaration_names sorts place vars =
    types_names sorts Start vars ++ doubles_names [] Start vars
    ++ unless (nat_le (length (named_words Start vars)) 8) TooMany place

abbrev pub predicates_names : List (List ℕ) → Trees → List Fault
predicates_names sorts nothing = []
predicates_names sorts (word text at rest) = predicates_names sorts rest
predicates_names sorts (list items at rest) =
    declaration_names sorts at (tail_of items) ++ predicates_names sorts rest

-- the total cost is declared without arguments
abbrev pub total_cost_names : ℕ → Trees → List Fault
total_cost_names place items =
    unless (if is_total_cost (head_of items) then length (named_words Start (tail_of items)) == 0 else true) Arity place

abbrev pub functions_names : List (List ℕ) → Trees → List Fault
functions_names sorts nothing = []
functions_names sorts (word text at rest) = functions_names sorts rest
functions_names sorts (list items at rest) =
    total_cost_names at items ++ declaration_names sorts at (tail_of items)
    ++ functions_names sorts rest

-- ---- derived predicates

-- the head of a derived predicate, as the list at this place: the predicate is there with so many arguments
abbrev pub head_names : Vocabulary → ℕ → Trees → List Fault
head_names v place items =
    use_names (arity_of v.predicates (head_of items)) (length (named_words Start (tail_of items)))
    (place_of_first items) place
    ++ declaration_names v.sorts place (tail_of items)
    ++ scope_names 0 Start (tail_of items)

-- (NAME vars) cond
abbrev pub derived_names : Vocabulary → Trees → List Fault
derived_names v nothing = []
derived_names v (word text at rest) = []
derived_names v (list items at rest) =
    head_names v at items ++ conditions_names v (named_words Start (tail_of items)) rest

-- ---- actions

-- the parameters of an action with these keys
abbrev pub parameters_of : Trees → Trees
parameters_of keys = value_at (codes ":parameters") keys

-- the value of a key, which is the list at this place, with these variables in scope
abbrev pub value_names : Vocabulary → (heads scope : List (List ℕ)) → Key → ℕ → Trees → List Fault
value_names v heads scope key.Parameters place items = variables_names v.sorts 0 items
value_names v heads scope key.Precondition place items = condition_names v scope place items
value_names v heads scope key.Effect place items = effect_names v heads scope place items
value_names v heads scope key.Inputs place items = []
value_names v heads scope key.Outputs place items = []
value_names v heads scope key.Domain place items = []
value_names v heads scope key.Certified place items = []
value_names v heads scope key.Value place items = []
value_names v heads scope key.Unknown place items = []
value_names v heads scope key.NoKey place items = []

-- keys and their values; the key before a value is the word before it
abbrev pub keys_names : Vocabulary → (heads scope : List (List ℕ)) → Key → Trees → List Fault
keys_names v heads scope k nothing = []
keys_names v heads scope k (word text at rest) = keys_names v heads scope (key_of Action text) rest
keys_names v heads scope k (list items at rest) =
    value_names v heads scope k at items ++ keys_names v heads scope k rest

-- akey*, behind the action's name
abbrev pub action_names : Vocabulary → List (List ℕ) → Trees → List Fault
action_names v heads keys =
    repeated_names [] keys
    ++ keys_names v heads (named_words Start (parameters_of keys)) key.NoKey keys

-- ---- items

-- what stands behind the first word of an item
abbrev pub body_names : Vocabulary → List (List ℕ) → Item → Trees → List Fault
body_names v heads item.Constants rest = types_names v.sorts Start rest
body_names v heads item.Predicates rest = predicates_names v.sorts rest
body_names v heads item.Functions rest = functions_names v.sorts rest
body_names v heads item.Derived rest = derived_names v rest
body_names v heads item.Action rest = action_names v heads (tail_of rest)
body_names v heads item.Types rest = []
body_names v heads item.Requirements rest = []
body_names v heads item.Domain rest = []
body_names v heads item.Objects rest = []
body_names v heads item.Init rest = []
body_names v heads item.Goal rest = []
body_names v heads item.Metric rest = []
body_names v heads item.Stream rest = []
body_names v heads item.CostStream rest = []
body_names v heads item.Unknown rest = []
body_names v heads item.NoItem rest = []

abbrev pub items_names : Vocabulary → List (List ℕ) → Trees → List Fault
items_names v heads nothing = []
items_names v heads (word text at rest) = items_names v heads rest
items_names v heads (list items at rest) =
    body_names v heads (item_of Domain (head_of items)) (tail_of items) ++ items_names v heads rest

-- ---- what may be there once

-- An item that may be there once.
abbrev pub is_single : Item → Bool
is_single item.Derived = false
is_single item.Action = false
is_single item.Stream = false
is_single item.CostStream = false
is_single item.Unknown = false
is_single item.NoItem = false
is_single item.Requirements = true
is_single item.Types = true
is_single item.Constants = true
is_single item.Predicates = true
is_single item.Functions = true
is_single item.Domain = true
is_single item.Objects = true
is_single item.Init = true
is_single item.Goal = true
is_single item.Metric = true

-- of a list that has this name, if it is of the kind of which each name may be there once
abbrev pub once : Bool → List ℕ → ℕ → List (List ℕ) → List Fault
once counts name place seen =
    if counts then unless (not (has_name name seen)) Duplicate place else []

abbrev pub seen_once : Bool → List ℕ → List (List ℕ) → List (List ℕ)
seen_once counts name seen = if counts then with_table_name seen name else seen

-- second items
abbrev pub second_items : TextKind → List (List ℕ) → Trees → List Fault
second_items text seen nothing = []
second_items text seen (word w at rest) = second_items text seen rest
second_items text seen (list items at rest) =
    once (is_single (item_of text (head_of items))) (head_of items) at seen
    ++ second_items text (seen_once (is_single (item_of text (head_of items))) (head_of items) seen) rest

abbrev pub is_action : Item → Bool
is_action item.Action = true
is_action _ = false

-- second actions of a name
abbrev pub second_actions : List (List ℕ) → Trees → List Fault
second_actions seen nothing = []
second_actions seen (word w at rest) = second_actions seen rest
second_actions seen (list items at rest) =
    once (is_action (item_of Domain (head_of items))) (head_of (tail_of items)) at seen
    ++ second_actions (seen_once (is_action (item_of Domain (head_of items))) (head_of (tail_of items)) seen) rest

-- declarations in a row, of which each name may be there once
abbrev pub second_declared : List (List ℕ) → Trees → List Fault
second_declared seen nothing = []
second_declared seen (word w at rest) = second_declared seen rest
second_declared seen (list items at rest) =
    once true (head_of items) at seen ++ second_declared (with_table_name seen (head_of items)) rest

abbrev pub declared_after : List (List ℕ) → Trees → List (List ℕ)
declared_after seen nothing = seen
declared_after seen (word w at rest) = declared_after seen rest
declared_after seen (list items at rest) = declared_after (with_table_name seen (head_of items)) rest

-- whether an item has declarations of this kind
abbrev pub declares : Declared → Item → Bool
declares Predicates item.Predicates = true
declares Predicates _ = false
declares Functions item.Functions = true
declares Functions _ = false

-- second predicates, or second functions, of a name
abbrev pub second_signatures : Declared → List (List ℕ) → Trees → List Fault
second_signatures d seen nothing = []
second_signatures d seen (word w at rest) = second_signatures d seen rest
second_signatures d seen (list items at rest) =
    (if declares d (item_of Domain (head_of items)) then second_declared seen (tail_of items) else [])
    ++ second_signatures d
    (if declares d (item_of Domain (head_of items)) then declared_after seen (tail_of items) else seen) rest

-- a `:derived` item of a predicate that is there
abbrev pub counts_as_derived : List (List ℕ) → Trees → Bool
counts_as_derived predicates items =
    is_derived_item (item_of Domain (head_of items)) && has_name (headed items) predicates

-- of an item that counts, the 65th predicate is one too many
abbrev pub crowded : Bool → List ℕ → ℕ → List (List ℕ) → List Fault
crowded counts name place heads =
    if counts then unless (has_name name heads || not (length heads == 64)) TooMany place else []

-- the item with the 65th derived predicate, where these were seen before
abbrev pub too_many_derived : (predicates heads : List (List ℕ)) → Trees → List Fault
too_many_derived predicates heads nothing = []
too_many_derived predicates heads (word w at rest) = too_many_derived predicates heads rest
too_many_derived predicates heads (list items at rest) =
    crowded (counts_as_derived predicates items) (headed items) at heads
    ++ too_many_derived predicates (seen_once (counts_as_derived predicates items) (headed items) heads) rest
