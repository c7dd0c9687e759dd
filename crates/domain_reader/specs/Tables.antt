-- The tables of names that a domain's items make.
use Rattle.std.specs.Prelude.{ℕ, Bool, true, false, if◌then◌else◌, List, [], ◌∷◌, length, codes}
use Rattle.sexpr_text.specs.Trees.{Trees, nothing, word, list}
use Rattle.form_reader.specs.declared.groups.Spot.TheVariants.{Start}
use Rattle.form_reader.specs.declared.items.Item.{Item}
use Rattle.form_reader.specs.declared.items.Item.TheVariants as item
use Rattle.form_reader.specs.declared.items.TextKind.TheVariants.{Domain}
use Rattle.form_reader.specs.Effects.{is_total_cost}
use Rattle.form_reader.specs.Items.{item_of}
use Rattle.form_reader.specs.Rows.{head_of, inner_of, is_dash, tail_of}
use Rattle.name_tables.specs.Names.{Signed, with_table_name, with_signature}
use Rattle.name_tables.specs.Variables.{named_words, seen_after}
use Rattle.name_tables.specs.Vocabulary.{with_total_cost}
use Rattle.name_tables.specs.declared.vocabulary.Vocabulary.{Vocabulary}

-- the text's name
abbrev pub name_of : Trees → List ℕ
name_of t = head_of (tail_of (inner_of (tail_of (inner_of t))))

-- The types as `:types` mentions them, each once.
abbrev pub types_in : List (List ℕ) → Trees → List (List ℕ)
types_in names nothing = names
types_in names (word text at rest) =
    types_in (if is_dash text then names else with_table_name names text) rest
types_in names (list items at rest) = types_in names rest

-- how many arguments a declaration gives; the total cost has none
abbrev pub declared_arity : List ℕ → Trees → ℕ
declared_arity name vars = if is_total_cost name then 0 else length (named_words Start vars)

-- The declarations in a row, each name once.
abbrev pub predicates_in : Signed → Trees → Signed
predicates_in s nothing = s
predicates_in s (word text at rest) = predicates_in s rest
predicates_in s (list items at rest) =
    predicates_in (with_signature s (head_of items) (length (named_words Start (tail_of items)))) rest

abbrev pub functions_in : Signed → Trees → Signed
functions_in s nothing = s
functions_in s (word text at rest) = functions_in s rest
functions_in s (list items at rest) =
    functions_in (with_signature s (head_of items) (declared_arity (head_of items) (tail_of items))) rest

-- the tables with what one item of a domain adds
abbrev pub with_item : Vocabulary → Item → Trees → Vocabulary
with_item v item.Types rest = record v { sorts = types_in v.sorts rest }
with_item v item.Constants rest = record v { objects = seen_after v.objects Start rest }
with_item v item.Predicates rest = record v { predicates = predicates_in v.predicates rest }
with_item v item.Functions rest = record v { functions = functions_in v.functions rest }
with_item v item.Requirements rest = v
with_item v item.Derived rest = v
with_item v item.Action rest = v
with_item v item.Domain rest = v
with_item v item.Objects rest = v
with_item v item.Init rest = v
with_item v item.Goal rest = v
with_item v item.Metric rest = v
with_item v item.Stream rest = v
with_item v item.CostStream rest = v
with_item v item.Unknown rest = v
with_item v item.NoItem rest = v

abbrev pub with_items : Vocabulary → Trees → Vocabulary
with_items v nothing = v
with_items v (word text at rest) = with_items v rest
with_items v (list items at rest) =
    with_items (with_item v (item_of Domain (head_of items)) (tail_of items)) rest

-- before all items: the type `object`
abbrev pub no_names : Vocabulary
no_names = record {
  sorts = codes "object" ∷ [];
  predicates = record { names = []; arities = [] };
  functions = record { names = []; arities = [] };
  objects = [];
}

-- the names of a domain with these items
abbrev pub vocabulary_in : Trees → Vocabulary
vocabulary_in body = with_total_cost (with_items no_names body)

abbrev pub is_derived_item : Item → Bool
is_derived_item item.Derived = true
is_derived_item _ = false

-- the predicate that a list heads, if it is a `:derived` item
abbrev pub headed : Trees → List ℕ
headed items = head_of (inner_of (tail_of items))

-- The predicates that `:derived` items head, each once.
abbrev pub heads_in : List (List ℕ) → Trees → List (List ℕ)
heads_in names nothing = names
heads_in names (word text at rest) = heads_in names rest
heads_in names (list items at rest) =
    heads_in (if is_derived_item (item_of Domain (head_of items)) then with_table_name names (headed items) else names) rest
