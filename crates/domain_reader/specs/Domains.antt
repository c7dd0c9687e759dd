-- What domains are, and all their name faults.
use Rattle.std.specs.Prelude.{◌≡◌, ℕ, Bool, true, false, if◌then◌else◌, List, [], ◌∷◌, ◌++◌, map, length, Option, Some, None, Result, Ok, Err, codes}
use Rattle.sexpr_text.specs.Trees.{Trees, nothing, word, list}
use Rattle.lemmas.specs.Lists.{numbers_from}
use Rattle.task_model.specs.Roles.{role_of}
use Rattle.task_model.specs.declared.domain.Action.{Action}
use Rattle.task_model.specs.declared.domain.Declared as declared
use Rattle.task_model.specs.declared.domain.Derived as rule
use Rattle.task_model.specs.declared.domain.Role.{Role}
use Rattle.task_model.specs.declared.domain.Domain.{Domain}
use Rattle.form_reader.specs.declared.fault.Fault.{Fault}
use Rattle.form_reader.specs.declared.fault.InputFault.{InputFault}
use Rattle.form_reader.specs.declared.fault.InputFault.TheVariants as input
use Rattle.form_reader.specs.declared.fault.InputKind.TheVariants.{TypeCycle, DerivedCycle}
use Rattle.form_reader.specs.declared.groups.Spot.TheVariants.{Start}
use Rattle.form_reader.specs.declared.items.Item.{Item}
use Rattle.form_reader.specs.declared.items.Item.TheVariants as item
use Rattle.form_reader.specs.declared.items.TextKind.TheVariants as text
use Rattle.form_reader.specs.Faults.{least_fault}
use Rattle.form_reader.specs.Items.{item_of}
use Rattle.form_reader.specs.Rows.{head_of, inner_of, tail_of}
use Rattle.form_reader.specs.Texts.{form_faults}
use Rattle.name_tables.specs.Conditions.{condition_of, single_of}
use Rattle.name_tables.specs.Declarations.{Typed, declare_each, declared_list, signature_list, no_typed}
use Rattle.name_tables.specs.Terms.{declared_place}
use Rattle.name_tables.specs.Variables.{named_sorts, named_words}
use Rattle.name_tables.specs.declared.vocabulary.Vocabulary.{Vocabulary}
use Rattle.domain_reader.specs.declared.once.Declared.TheVariants.{Predicates, Functions}
use Rattle.domain_reader.specs.Cycles.{AreSorts, derived_edges, derived_in, listed_in, type_edges}
use Rattle.name_tables.specs.Cycles.{CycleFaults, AnswersCycles}
use Rattle.domain_reader.specs.Effects.{Done, after_effect}
use Rattle.domain_reader.specs.Names.{is_action, items_names, parameters_of, second_actions, second_items, second_signatures, too_many_derived}
use Rattle.domain_reader.specs.Tables.{heads_in, is_derived_item, name_of, vocabulary_in}
use Rattle.name_tables.specs.Texts.{body_of, value_at}

-- ---- name faults

-- those of a domain with these items that aren't of cycles
abbrev pub plain_names : Vocabulary → Trees → List Fault
plain_names v body =
    items_names v (heads_in [] body) body ++ second_items text.Domain [] body ++ second_signatures Predicates [] body
    ++ second_signatures Functions [] body ++ second_actions [] body
    ++ too_many_derived v.predicates.names [] body

-- the answered one of a fault so far and of those of types on cycles
abbrev pub AnswersTypes : Vocabulary → Trees → (so_far answered : Option Fault) → Type 0
AnswersTypes v body so_far answered =
    AnswersCycles TypeCycle (type_edges v.sorts body) (listed_in v.sorts [] body) so_far answered

-- the answered one of a fault so far and of those of derived predicates on cycles
abbrev pub AnswersDerived : Vocabulary → Trees → (so_far answered : Option Fault) → Type 0
AnswersDerived v body so_far answered =
    AnswersCycles DerivedCycle (derived_edges v.predicates.names body)
    (derived_in v.predicates.names body) so_far answered

-- these are all name faults of a domain with these names and items
pub record AreNameFaults (v : Vocabulary) (body : Trees) (faults : List Fault) : Type 0 where
  pub types : List Fault
  pub types_right : CycleFaults TypeCycle (type_edges v.sorts body) (listed_in v.sorts [] body) types
  pub derived : List Fault
  pub derived_right : CycleFaults DerivedCycle
      (derived_edges v.predicates.names body) (derived_in v.predicates.names body) derived
  pub all : faults ≡ plain_names v body ++ types ++ derived

pub record AnswersNames (v : Vocabulary) (body : Trees) (answered : Option Fault) : Type 0 where
  pub faults : List Fault
  pub right : AreNameFaults v body faults
  pub least : answered ≡ least_fault faults

-- ---- the domain

abbrev pub is_constants : Item → Bool
is_constants item.Constants = true
is_constants _ = false

-- the constants with their types
abbrev pub constants_in : List (List ℕ) → Typed → Trees → Typed
constants_in sorts t nothing = t
constants_in sorts t (word w at rest) = constants_in sorts t rest
constants_in sorts t (list items at rest) =
    constants_in sorts (if is_constants (item_of text.Domain (head_of items))
    then declare_each t (named_words Start (tail_of items)) (named_sorts sorts Start 0 (tail_of items)) else t) rest

abbrev pub nothing_done : Done
nothing_done = record { adds = []; deletes = []; costs = [] }

abbrev pub value_of_effect : Trees → Trees
value_of_effect keys = value_at (codes ":effect") keys

-- what an action does whose keys are these
abbrev pub done_by : Vocabulary → Trees → Done
done_by v keys =
    after_effect v (named_words Start (parameters_of keys)) nothing_done (value_of_effect keys)

-- NAME akey*
abbrev pub action_of : Vocabulary → Trees → Action
action_of v items =
    record {
      name = head_of items;
      params = named_sorts v.sorts Start 0 (parameters_of (tail_of items));
      condition =
          condition_of v (named_words Start (parameters_of (tail_of items)))
          (value_at (codes ":precondition") (tail_of items));
      adds = (done_by v (tail_of items)).adds;
      deletes = (done_by v (tail_of items)).deletes;
      costs = (done_by v (tail_of items)).costs;
    }

abbrev pub actions_of : Vocabulary → Trees → List Action
actions_of v nothing = []
actions_of v (word w at rest) = actions_of v rest
actions_of v (list items at rest) =
    (if is_action (item_of text.Domain (head_of items)) then action_of v (tail_of items) ∷ [] else [])
    ++ actions_of v rest

-- (NAME vars) cond
abbrev pub rule_of : Vocabulary → Trees → rule.Derived
rule_of v items =
    record {
      pred = declared_place v.predicates (head_of (inner_of items));
      params = named_sorts v.sorts Start 0 (tail_of (inner_of items));
      body = single_of v (named_words Start (tail_of (inner_of items))) (tail_of items);
    }

abbrev pub rules_of : Vocabulary → Trees → List rule.Derived
rules_of v nothing = []
rules_of v (word w at rest) = rules_of v rest
rules_of v (list items at rest) =
    (if is_derived_item (item_of text.Domain (head_of items)) then rule_of v (tail_of items) ∷ [] else [])
    ++ rules_of v rest

abbrev pub constants_of : List (List ℕ) → Trees → List declared.Declared
constants_of sorts body =
    declared_list (constants_in sorts no_typed body).names (constants_in sorts no_typed body).sorts

-- ---- roles

abbrev pub roles_of : Domain → List Role
roles_of d = map (role_of d) (numbers_from 0 (length d.predicates))

-- ---- a domain with these names

pub record ArePartsOf (v : Vocabulary) (t : Trees) (d : Domain) : Type 0 where
  pub name : d.name ≡ name_of t
  pub sorts : AreSorts (type_edges v.sorts (body_of t)) 0 v.sorts d.sorts
  pub predicates : d.predicates ≡ signature_list v.predicates.names v.predicates.arities
  pub functions : d.functions ≡ signature_list v.functions.names v.functions.arities
  pub constants : d.constants ≡ constants_of v.sorts (body_of t)
  pub derived : d.derived ≡ rules_of v (body_of t)
  pub actions : d.actions ≡ actions_of v (body_of t)

-- and each predicate has its role
pub record IsDomainBy (v : Vocabulary) (t : Trees) (d : Domain) : Type 0 where
  pub parts : ArePartsOf v t d
  pub roles : d.roles ≡ roles_of d

-- ---- reading

-- the names of a text that is this row of one tree
abbrev pub domain_names : Trees → Vocabulary
domain_names t = vocabulary_in (body_of t)

-- the domain that the names give, or the name fault that is answered
abbrev pub DomainReadsNamed : Trees → Result Domain Fault → Type 0
DomainReadsNamed t (Ok d) =
    AnswersNames (domain_names t) (body_of t) None × IsDomainBy (domain_names t) t d
DomainReadsNamed t (Err f) = AnswersNames (domain_names t) (body_of t) (Some f)

-- The fault is answered: of form faults the least, and where there is none, of name faults the least.
pub data IsDomainAnswered (t : Trees) (f : Fault) : Type 0 where
  of_form : least_fault (form_faults text.Domain t) ≡ Some f → IsDomainAnswered t f
  of_names : {faults : List Fault} → form_faults text.Domain t ≡ []
      → AreNameFaults (domain_names t) (body_of t) faults → least_fault faults ≡ Some f
      → IsDomainAnswered t f

-- there is no fault, and this is the domain
pub record IsDomainRead (t : Trees) (d : Domain) : Type 0 where
  pub formed : form_faults text.Domain t ≡ []
  pub named : AreNameFaults (domain_names t) (body_of t) []
  pub domain : IsDomainBy (domain_names t) t d

-- A domain is read where there is no fault, and a fault is the answered one. Memory is free.
abbrev pub DomainReads : Trees → Result Domain InputFault → Type 0
DomainReads t (Ok d) = IsDomainRead t d
DomainReads t (Err (input.At place kind)) =
    IsDomainAnswered t (record { place = place; kind = kind })
DomainReads t (Err input.Memory) = Unit {0}
