-- The name faults of a problem's items, one function a row.
use Rattle.std.specs.Prelude.{ℕ, Bool, false, not, if◌then◌else◌, List, [], ◌++◌, Option, Some, None, slice_get, codes}
use Rattle.std.specs.Str.{bytes_eq}
use Rattle.sexpr_text.specs.Trees.{Trees, nothing, word, list}
use Rattle.task_model.specs.Fit.{is_derived_role}
use Rattle.task_model.specs.declared.domain.Domain.{Domain}
use Rattle.task_model.specs.declared.domain.Role.{Role}
use Rattle.form_reader.specs.declared.fault.Fault.{Fault}
use Rattle.form_reader.specs.declared.fault.InputKind.TheVariants.{Unknown, EffectOnStatic}
use Rattle.form_reader.specs.declared.groups.Spot.TheVariants.{Start}
use Rattle.form_reader.specs.declared.items.Item.{Item}
use Rattle.form_reader.specs.declared.items.Item.TheVariants as item
use Rattle.form_reader.specs.declared.items.TextKind.TheVariants as text
use Rattle.form_reader.specs.Items.{item_of}
use Rattle.form_reader.specs.Rows.{head_of, tail_of}
use Rattle.name_tables.specs.Conditions.{conditions_names}
use Rattle.name_tables.specs.Names.{table_place}
use Rattle.name_tables.specs.Terms.{application_names}
use Rattle.name_tables.specs.Variables.{types_names, unless}
use Rattle.name_tables.specs.declared.vocabulary.Vocabulary.{Vocabulary}

-- the name behind `:domain` is the domain's
abbrev pub domain_name_faults : List ℕ → Trees → List Fault
domain_name_faults name nothing = []
domain_name_faults name (word w at rest) = unless (bytes_eq w name) Unknown at
domain_name_faults name (list items at rest) = []

-- ---- facts

-- a list that gives a function term a value: `(= (NAME NAME*) NUMBER)`
abbrev pub is_worth : Trees → Bool
is_worth items = bytes_eq (head_of items) (codes "=")

abbrev pub is_derived_at : List Role → Option ℕ → Bool
is_derived_at roles None = false
is_derived_at roles (Some place) = is (slice_get roles place)
  where
    is : Option Role → Bool
    is None = false
    is (Some role) = is_derived_role role

-- an atom, as the list at this place; none of a derived predicate
abbrev pub atom_names : Vocabulary → List Role → ℕ → Trees → List Fault
atom_names v roles place items =
    application_names v.predicates v.objects [] place items
    ++ unless (not (is_derived_at roles (table_place (head_of items) v.predicates.names))) EffectOnStatic place

-- the function term that stands first in a row
abbrev pub worth_names : Vocabulary → Trees → List Fault
worth_names v nothing = []
worth_names v (word w at rest) = []
worth_names v (list items at rest) = application_names v.functions v.objects [] at items

abbrev pub fact_names : Vocabulary → List Role → ℕ → Trees → List Fault
fact_names v roles place items =
    if is_worth items then worth_names v (tail_of items) else atom_names v roles place items

abbrev pub facts_names : Vocabulary → List Role → Trees → List Fault
facts_names v roles nothing = []
facts_names v roles (word w at rest) = facts_names v roles rest
facts_names v roles (list items at rest) = fact_names v roles at items ++ facts_names v roles rest

-- the goal, in which no variable is in scope from outside
abbrev pub goal_names : Vocabulary → Trees → List Fault
goal_names v rest = conditions_names v [] rest

-- ---- items

-- what stands behind the first word of an item
abbrev pub problem_body_names : Vocabulary → Domain → Item → Trees → List Fault
problem_body_names v d item.Domain rest = domain_name_faults d.name rest
problem_body_names v d item.Objects rest = types_names v.sorts Start rest
problem_body_names v d item.Init rest = facts_names v d.roles rest
problem_body_names v d item.Goal rest = goal_names v rest
problem_body_names v d item.Requirements rest = []
problem_body_names v d item.Metric rest = []
problem_body_names v d item.Types rest = []
problem_body_names v d item.Constants rest = []
problem_body_names v d item.Predicates rest = []
problem_body_names v d item.Functions rest = []
problem_body_names v d item.Derived rest = []
problem_body_names v d item.Action rest = []
problem_body_names v d item.Stream rest = []
problem_body_names v d item.CostStream rest = []
problem_body_names v d item.Unknown rest = []
problem_body_names v d item.NoItem rest = []

abbrev pub problem_items_names : Vocabulary → Domain → Trees → List Fault
problem_items_names v d nothing = []
problem_items_names v d (word w at rest) = problem_items_names v d rest
problem_items_names v d (list items at rest) =
    problem_body_names v d (item_of text.Problem (head_of items)) (tail_of items) ++ problem_items_names v d rest
