-- What problems are, and all their name faults.
use Rattle.std.specs.Prelude.{◌≡◌, ℕ, Bool, true, false, if◌then◌else◌, List, [], ◌∷◌, ◌++◌, Option, Some, None, Result, Ok, Err, unwrap_or}
use Rattle.sexpr_text.specs.Trees.{Trees, nothing, word, list}
use Rattle.task_model.specs.Condition.{Condition}
use Rattle.task_model.specs.declared.domain.Declared as declared
use Rattle.task_model.specs.declared.domain.Domain.{Domain}
use Rattle.task_model.specs.declared.fact.Fact.{Fact}
use Rattle.task_model.specs.declared.fact.Kind.TheVariants.{Predicate}
use Rattle.task_model.specs.declared.task.Problem.{Problem}
use Rattle.task_model.specs.declared.task.Valued.{Valued}
use Rattle.form_reader.specs.declared.fault.Fault as faults
use Rattle.form_reader.specs.declared.fault.InputFault.{InputFault}
use Rattle.form_reader.specs.declared.fault.InputFault.TheVariants as input
use Rattle.form_reader.specs.declared.groups.Spot.TheVariants.{Start}
use Rattle.form_reader.specs.declared.items.Item.{Item}
use Rattle.form_reader.specs.declared.items.Item.TheVariants as item
use Rattle.form_reader.specs.declared.items.TextKind.TheVariants as text
use Rattle.form_reader.specs.Faults.{least_fault}
use Rattle.form_reader.specs.Items.{item_of}
use Rattle.form_reader.specs.Rows.{head_of, tail_of}
use Rattle.form_reader.specs.Texts.{form_faults}
use Rattle.name_tables.specs.Conditions.{single_of}
use Rattle.name_tables.specs.Declarations.{Typed, declare, declare_each, declared_list, no_typed}
use Rattle.name_tables.specs.Names.{table_place}
use Rattle.name_tables.specs.Terms.{declared_place}
use Rattle.name_tables.specs.Variables.{named_sorts, named_words}
use Rattle.name_tables.specs.declared.vocabulary.Vocabulary.{Vocabulary}
use Rattle.domain_reader.specs.Names.{second_items}
use Rattle.domain_reader.specs.Tables.{name_of}
use Rattle.name_tables.specs.Texts.{body_of}
use Rattle.problem_reader.specs.Names.{is_worth, problem_items_names}
use Rattle.problem_reader.specs.Tables.{is_objects, problem_names}
use Rattle.problem_reader.specs.Values.{is_init, nothing_given, term_in, value_in, values_names}

-- ---- name faults

-- all of a problem of this domain with these items, whose names these are
abbrev pub names_faults : Domain → Vocabulary → Trees → List faults.Fault
names_faults d v body =
    problem_items_names v d body ++ second_items text.Problem [] body ++ values_names nothing_given body

-- all of a text that is this row of one tree, as a problem of this domain
abbrev pub name_faults : Domain → Trees → List faults.Fault
name_faults d t = names_faults d (problem_names d (body_of t)) (body_of t)

-- ---- objects

-- a name with each of these types
abbrev pub declare_all : Typed → List ℕ → List ℕ → Typed
declare_all t name [] = t
declare_all t name (s ∷ ss) = declare_all (declare t name s) name ss

-- the domain's constants with their types
abbrev pub constants_typed : Typed → List declared.Declared → Typed
constants_typed t [] = t
constants_typed t (d ∷ ds) = constants_typed (declare_all t d.name d.sorts) ds

-- and the objects that items declare; a constant that is declared again has the types of both
abbrev pub objects_typed : List (List ℕ) → Typed → Trees → Typed
objects_typed sorts t nothing = t
objects_typed sorts t (word w at rest) = objects_typed sorts t rest
objects_typed sorts t (list items at rest) =
    objects_typed sorts (if is_objects (item_of text.Problem (head_of items))
    then declare_each t (named_words Start (tail_of items)) (named_sorts sorts Start 0 (tail_of items)) else t) rest

abbrev pub all_typed : Domain → List (List ℕ) → Trees → Typed
all_typed d sorts body = objects_typed sorts (constants_typed no_typed d.constants) body

abbrev pub declared_objects : Domain → List (List ℕ) → Trees → List declared.Declared
declared_objects d sorts body =
    declared_list (all_typed d sorts body).names (all_typed d sorts body).sorts

-- Lists of types, if they are kept, that belong to the names of the objects.
abbrev pub AreTypesOf : Domain → Vocabulary → Trees → Option (List (List ℕ)) → Type 0
AreTypesOf d v body None = Unit {0}
AreTypesOf d v body (Some sorts) = declared_list v.objects sorts ≡ declared_objects d v.sorts body

-- ---- facts and values, in the order of the text

-- the objects that the words of a row name
abbrev pub places_in_row : List (List ℕ) → Trees → List ℕ
places_in_row objects nothing = []
places_in_row objects (word w at rest) = unwrap_or (table_place w objects) 0 ∷ places_in_row objects rest
places_in_row objects (list items at rest) = places_in_row objects rest

-- (NAME NAME*)
abbrev pub spelled_fact : Vocabulary → Trees → Fact
spelled_fact v items = record
    { kind = Predicate; name = declared_place v.predicates (head_of items); args = places_in_row v.objects (tail_of items) }

-- (= (NAME NAME*) NUMBER)
abbrev pub valued_of : Vocabulary → Trees → Valued
valued_of v items =
    record {
      func = declared_place v.functions (head_of (term_in items));
      args = places_in_row v.objects (tail_of (term_in items));
      value = value_in items;
    }

-- a list of `:init`, where it is an atom
abbrev pub fact_if_atom : Vocabulary → Trees → List Fact
fact_if_atom v items = if is_worth items then [] else spelled_fact v items ∷ []

abbrev pub facts_of : Vocabulary → Trees → List Fact
facts_of v nothing = []
facts_of v (word w at rest) = facts_of v rest
facts_of v (list items at rest) = fact_if_atom v items ++ facts_of v rest

abbrev pub valueds_of : Vocabulary → Trees → List Valued
valueds_of v nothing = []
valueds_of v (word w at rest) = valueds_of v rest
valueds_of v (list items at rest) =
    (if is_worth items then valued_of v items ∷ [] else []) ++ valueds_of v rest

-- ---- the problem

-- what stands behind the word `:init` of the first such item
abbrev pub init_of : Trees → Trees
init_of nothing = nothing
init_of (word w at rest) = init_of rest
init_of (list items at rest) =
    if is_init (item_of text.Problem (head_of items)) then tail_of items else init_of rest

-- Facts that are held, with those of a row behind them where this is the first `:init`: whether there was one before,
-- and whether the row is one.
abbrev pub facts_with : Vocabulary → (begun here : Bool) → List Fact → Trees → List Fact
facts_with v true here facts rest = facts
facts_with v false true facts rest = facts ++ facts_of v rest
facts_with v false false facts rest = facts

-- facts that are held, with those of the first `:init` behind them, if there was none before
abbrev pub first_facts : Vocabulary → (begun : Bool) → List Fact → Trees → List Fact
first_facts v begun facts body = facts_with v begun true facts (init_of body)

abbrev pub is_goal : Item → Bool
is_goal item.Goal = true
is_goal _ = false

-- what stands behind the word `:goal` of the first such item
abbrev pub goal_of : Trees → Trees
goal_of nothing = nothing
goal_of (word w at rest) = goal_of rest
goal_of (list items at rest) =
    if is_goal (item_of text.Problem (head_of items)) then tail_of items else goal_of rest

abbrev pub is_metric_item : Item → Bool
is_metric_item item.Metric = true
is_metric_item _ = false

-- whether there is a `:metric`, which can only be the total cost
abbrev pub has_metric : Trees → Bool
has_metric nothing = false
has_metric (word w at rest) = has_metric rest
has_metric (list items at rest) =
    if is_metric_item (item_of text.Problem (head_of items)) then true else has_metric rest

-- the condition of a goal, in which no variable is in scope from outside
abbrev pub condition_of : Vocabulary → Trees → Condition
condition_of v rest = single_of v [] rest

-- the problem of this domain with these names that a text spells
abbrev pub problem_by : Domain → Vocabulary → Trees → Problem
problem_by d v t =
    record {
      name = name_of t;
      objects = declared_objects d v.sorts (body_of t);
      init = facts_of v (init_of (body_of t));
      values = valueds_of v (init_of (body_of t));
      goal = condition_of v (goal_of (body_of t));
      metric = has_metric (body_of t);
    }

-- the problem that a text spells
abbrev pub problem_of : Domain → Trees → Problem
problem_of d t = problem_by d (problem_names d (body_of t)) t

-- ---- reading

-- the problem that the names give, or the name fault that is answered
abbrev pub ProblemReadsNamed : Domain → Trees → Result Problem faults.Fault → Type 0
ProblemReadsNamed d t (Ok p) = (least_fault (name_faults d t) ≡ None) × (p ≡ problem_of d t)
ProblemReadsNamed d t (Err f) = least_fault (name_faults d t) ≡ Some f

-- The fault is answered: of form faults the least, and where there is none, of name faults the least.
pub data IsProblemAnswered (d : Domain) (t : Trees) (f : faults.Fault) : Type 0 where
  of_form : least_fault (form_faults text.Problem t) ≡ Some f → IsProblemAnswered d t f
  of_names : form_faults text.Problem t ≡ [] → least_fault (name_faults d t) ≡ Some f
      → IsProblemAnswered d t f

-- there is no fault, and this is the problem
pub record IsProblemRead (d : Domain) (t : Trees) (p : Problem) : Type 0 where
  pub formed : form_faults text.Problem t ≡ []
  pub named : name_faults d t ≡ []
  pub problem : p ≡ problem_of d t

-- A problem is read where there is no fault, and a fault is the answered one. Memory is free.
abbrev pub ProblemReads : Domain → Trees → Result Problem InputFault → Type 0
ProblemReads d t (Ok p) = IsProblemRead d t p
ProblemReads d t (Err (input.At place kind)) =
    IsProblemAnswered d t (record { place = place; kind = kind })
ProblemReads d t (Err input.Memory) = Unit {0}
