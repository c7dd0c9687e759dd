-- Fit tasks: those that the readers give, and that all planning asks for. The rules on names, numbers and
-- limits are this project's profile of PDDL.
use Rattle.std.specs.Prelude.{◌≡◌, ℕ, ◌+◌, ◌≤◌, max, List, [], ◌∷◌, ◌++◌, map, length, take, codes, Bool, true, false, not, ◌&&◌, ◌||◌, ◌==◌, nat_lt, nat_le, Option, None, Some, slice_get, count_by}
use Rattle.std.specs.List.{list_any, list_all}
use Rattle.task_model.specs.Condition.{Condition, Conditions, Atom, Equal, All as every, Any, Not, Exists, none, more}
use Rattle.task_model.specs.Initial.{declared_names, sorts_with}
use Rattle.lemmas.specs.Lists.{AreDistinct, LeadsAlong, numbers_from}
use Rattle.task_model.specs.Roles.{role_of}
use Rattle.task_model.specs.Truth.{is_slot}
use Rattle.task_model.specs.declared.condition.Term.{Term}
use Rattle.task_model.specs.declared.condition.Term.TheVariants.{Slot, Object}
use Rattle.task_model.specs.declared.domain.Action.{Action}
use Rattle.task_model.specs.declared.domain.CostTerm.{CostTerm}
use Rattle.task_model.specs.declared.domain.CostTerm.TheVariants.{Number, Value}
use Rattle.task_model.specs.declared.domain.Declared.{Declared}
use Rattle.task_model.specs.declared.domain.Derived as rule
use Rattle.task_model.specs.declared.domain.Domain.{Domain}
use Rattle.task_model.specs.declared.domain.Pattern.{Pattern}
use Rattle.task_model.specs.declared.domain.Role.{Role}
use Rattle.task_model.specs.declared.domain.Role.TheVariants.{Static, Fluent, Derived}
use Rattle.task_model.specs.declared.domain.Signature.{Signature}
use Rattle.task_model.specs.declared.domain.Sort as sorts
use Rattle.task_model.specs.declared.fact.Fact.{Fact}
use Rattle.task_model.specs.declared.fact.Kind.{Kind}
use Rattle.task_model.specs.declared.fact.Kind.TheVariants.{Predicate, Sort}
use Rattle.task_model.specs.declared.limits.TheConstants.{LARGEST_NUMBER, SLOTS}
use Rattle.task_model.specs.declared.stream.Stream.{Stream}
use Rattle.task_model.specs.declared.stream.Worth.{Worth}
use Rattle.task_model.specs.declared.task.Task.{Task}
use Rattle.task_model.specs.declared.task.Valued.{Valued}
use Rattle.task_model.specs.Streams.{is_empty}

-- ---- names and lists

-- a letter in lower case
abbrev pub is_letter : ℕ → Bool
is_letter byte = nat_le 97 byte && nat_le byte 122

-- a decimal digit
abbrev pub is_digit : ℕ → Bool
is_digit byte = nat_le 48 byte && nat_le byte 57

-- a letter, a digit, `-` or `_`
abbrev pub is_name_byte : ℕ → Bool
is_name_byte byte = is_letter byte || is_digit byte || (byte == 45) || (byte == 95)

-- a letter in lower case and then such bytes, at most 255 in all
abbrev pub is_name : List ℕ → Bool
is_name [] = false
is_name (byte ∷ bytes) = is_letter byte && list_all is_name_byte bytes && nat_lt (length bytes) 255

-- names, each once
pub record AreNames (names : List (List ℕ)) : Type 0 where
  pub each : list_all is_name names ≡ true
  pub distinct : AreDistinct names

-- at most 2^23 members
abbrev pub is_short : {A : Type 0} → List A → Bool
is_short xs = nat_le (length xs) 8388608

-- each number is a place of a list of this length
abbrev pub are_places : ℕ → List ℕ → Bool
are_places size numbers = is_short numbers && list_all (λ n. nat_lt n size) numbers

-- ---- terms and atoms, where `filled` are the slots with a value and `objects` how many objects there are

-- an object of the task, or a slot that has a value
abbrev pub is_fit_term : ℕ → List ℕ → Term → Bool
is_fit_term objects filled (Slot n) = list_any (λ slot. slot == n) filled
is_fit_term objects filled (Object o) = nat_lt o objects

-- a predicate or a function of this list, with its number of arguments
abbrev pub has_arity : List Signature → ℕ → ℕ → Bool
has_arity signatures place n = is (slice_get signatures place)
  where
    is : Option Signature → Bool
    is (Some s) = s.arity == n
    is None = false

-- of a predicate or function that is there, with its number of arguments
abbrev pub is_fit_application : List Signature → ℕ → List ℕ → ℕ → List Term → Bool
is_fit_application signatures objects filled place args =
    has_arity signatures place (length args) && list_all (is_fit_term objects filled) args

-- an atom of a predicate that is there
abbrev pub is_fit_pattern : Domain → ℕ → List ℕ → Pattern → Bool
is_fit_pattern domain objects filled p =
    is_fit_application domain.predicates objects filled p.pred p.args

-- each of them is
abbrev pub are_fit_patterns : Domain → ℕ → List ℕ → List Pattern → Bool
are_fit_patterns domain objects filled patterns =
    is_short patterns && list_all (is_fit_pattern domain objects filled) patterns

-- ---- conditions

-- how many parts
abbrev pub count_of : Conditions → ℕ
count_of none = 0
count_of (more part parts) = count_of parts + 1

-- how deep conditions are nested
abbrev mutual
  pub depth_of : Condition → ℕ
  depth_of (Atom pred args) = 1
  depth_of (Equal s t) = 1
  depth_of (every parts) = depths_of parts + 1
  depth_of (Any parts) = depths_of parts + 1
  depth_of (Not part) = depth_of part + 1
  depth_of (Exists first sorts body) = depth_of body + 1

  pub depths_of : Conditions → ℕ
  depths_of none = 0
  depths_of (more part parts) = max (depth_of part) (depths_of parts)

module _ (domain : Domain) (objects : ℕ) where
  -- All places are in range, each atom has its predicate's number of arguments, and each slot that is used
  -- has a value or gets one from an `Exists` around it, whose slots are among the sixteen.
  abbrev mutual
    pub is_sound : Condition → List ℕ → Bool
    is_sound (Atom pred args) filled = is_fit_application domain.predicates objects filled pred args
    is_sound (Equal s t) filled = is_fit_term objects filled s && is_fit_term objects filled t
    is_sound (every parts) filled = nat_le (count_of parts) 8388608 && are_sound parts filled
    is_sound (Any parts) filled = nat_le (count_of parts) 8388608 && are_sound parts filled
    is_sound (Not part) filled = is_sound part filled
    is_sound (Exists first sorts body) filled =
        nat_le (first + length sorts) SLOTS && are_places (length domain.sorts) sorts
        && is_sound body (numbers_from first (length sorts) ++ filled)

    pub are_sound : Conditions → List ℕ → Bool
    are_sound none filled = true
    are_sound (more part parts) filled = is_sound part filled && are_sound parts filled

  -- and it is nested at most 64 deep
  abbrev pub is_fit_condition : List ℕ → Condition → Bool
  is_fit_condition filled condition = is_sound condition filled && nat_le (depth_of condition) 64

-- ---- what derived predicates rest on

abbrev mutual
  pub mentions : ℕ → Condition → Bool
  mentions pred (Atom p args) = p == pred
  mentions pred (Equal s t) = false
  mentions pred (every parts) = any_mentions pred parts
  mentions pred (Any parts) = any_mentions pred parts
  mentions pred (Not part) = mentions pred part
  mentions pred (Exists first sorts body) = mentions pred body

  pub any_mentions : ℕ → Conditions → Bool
  any_mentions pred none = false
  any_mentions pred (more part parts) = mentions pred part || any_mentions pred parts

-- an item that heads the first has the second in its body
abbrev pub depends : Domain → ℕ → ℕ → Bool
depends domain head pred =
    list_any (λ (d : rule.Derived). (d.pred == head) && mentions pred d.body) domain.derived

-- a derived predicate's
abbrev pub is_derived_role : Role → Bool
is_derived_role Derived = true
is_derived_role Static = false
is_derived_role Fluent = false

-- a static predicate's
abbrev pub is_static_role : Role → Bool
is_static_role Static = true
is_static_role Fluent = false
is_static_role Derived = false

-- ---- domains

-- the types, the first of which is `object`
pub record AreFitSorts (all : List sorts.Sort) : Type 0 where
  pub names : AreNames (map (λ (s : sorts.Sort). s.name) all)
  pub first : slice_get all 0 ≡ Some (record { name = codes "object"; above = [] })
  pub short : is_short all ≡ true
  pub places : list_all (λ (s : sorts.Sort). are_places (length all) s.above) all ≡ true
  pub proper : (k : ℕ) (s : sorts.Sort) → slice_get all k ≡ Some s
      → list_any (λ a. a == k) s.above ≡ false
  pub closed : (k a b : ℕ) (s t : sorts.Sort) → slice_get all k ≡ Some s
      → list_any (λ n. n == a) s.above ≡ true
      → slice_get all a ≡ Some t → list_any (λ n. n == b) t.above ≡ true → list_any (λ n. n == b) s.above ≡ true

-- the signatures of predicates or functions
pub record AreFitSignatures (all : List Signature) : Type 0 where
  pub names : AreNames (map (λ (s : Signature). s.name) all)
  pub arities : list_all (λ (s : Signature). nat_le s.arity 8) all ≡ true
  pub short : is_short all ≡ true

-- the declared objects
pub record AreFitObjects (domain : Domain) (all : List Declared) : Type 0 where
  pub names : AreNames (map (λ (d : Declared). d.name) all)
  pub types : list_all (λ (d : Declared). are_places (length domain.sorts) d.sorts) all ≡ true
  pub short : is_short all ≡ true

-- the parameters of an action or an item: few, of types that are there
abbrev pub are_fit_params : Domain → List ℕ → Bool
are_fit_params domain params = nat_le (length params) SLOTS && are_places (length domain.sorts) params

-- an item that defines a derived predicate
abbrev pub is_fit_item : Domain → rule.Derived → Bool
is_fit_item domain d =
    are_fit_params domain d.params && has_arity domain.predicates d.pred (length d.params)
    && is_fit_condition domain (length domain.constants) (numbers_from 0 (length d.params)) d.body

-- a term of an action's cost
abbrev pub is_fit_cost : Domain → List ℕ → CostTerm → Bool
is_fit_cost domain filled (Number n) = nat_le n LARGEST_NUMBER
is_fit_cost domain filled (Value func args) =
    is_fit_application domain.functions (length domain.constants) filled func args

-- atoms of predicates that aren't derived
abbrev pub are_fit_effects : Domain → List ℕ → List Pattern → Bool
are_fit_effects domain filled patterns =
    are_fit_patterns domain (length domain.constants) filled patterns
    && list_all (λ (p : Pattern). not (is_derived_role (role_of domain p.pred))) patterns

-- the slots of an action's parameters
abbrev pub param_slots : Action → List ℕ
param_slots a = numbers_from 0 (length a.params)

-- an action
abbrev pub is_fit_action : Domain → Action → Bool
is_fit_action domain a =
    are_fit_params domain a.params && is_fit_condition domain (length domain.constants) (param_slots a) a.condition
    && are_fit_effects domain (param_slots a) a.adds && are_fit_effects domain (param_slots a) a.deletes
    && nat_le (length a.costs) 262144 && list_all (is_fit_cost domain (param_slots a)) a.costs

-- a domain as the reader gives it
pub record IsFitDomain (domain : Domain) : Type 0 where
  pub name : is_name domain.name ≡ true
  pub types : AreFitSorts domain.sorts
  pub predicates : AreFitSignatures domain.predicates
  pub functions : AreFitSignatures domain.functions
  pub constants : AreFitObjects domain domain.constants
  pub items : (is_short domain.derived && list_all (is_fit_item domain) domain.derived) ≡ true
  pub few_derived : count_by is_derived_role domain.roles ≤ 64
  pub acyclic : (pred : ℕ) (between : List ℕ) → ¬ (LeadsAlong (depends domain) pred between pred)
  pub action_names : AreNames (map (λ (a : Action). a.name) domain.actions)
  pub actions : (is_short domain.actions && list_all (is_fit_action domain) domain.actions) ≡ true
  pub roles : domain.roles ≡ map (role_of domain) (numbers_from 0 (length domain.predicates))

-- ---- problems

-- whether a fact is an atom of a predicate
abbrev pub is_predicate : Kind → Bool
is_predicate Predicate = true
is_predicate Sort = false

-- a fact of `:init`
abbrev pub is_fit_fact : Domain → ℕ → Fact → Bool
is_fit_fact domain objects fact =
    is_predicate fact.kind && has_arity domain.predicates fact.name (length fact.args)
    && list_all (λ o. nat_lt o objects) fact.args && not (is_derived_role (role_of domain fact.name))

-- a value of `:init`
abbrev pub is_fit_value : Domain → ℕ → Valued → Bool
is_fit_value domain objects v =
    has_arity domain.functions v.func (length v.args) && list_all (λ o. nat_lt o objects) v.args
    && nat_le v.value LARGEST_NUMBER

-- a problem as the reader gives it
pub record IsFitProblem (task : Task) : Type 0 where
  pub name : is_name task.problem.name ≡ true
  pub objects : AreFitObjects task.domain task.problem.objects
  pub constants_first : map (λ (d : Declared). d.name) task.domain.constants
      ≡ take (length task.domain.constants) (declared_names task)
  pub init : (is_short task.problem.init
      && list_all (is_fit_fact task.domain (length task.problem.objects)) task.problem.init)
      ≡ true
  pub values : (is_short task.problem.values
      && list_all (is_fit_value task.domain (length task.problem.objects)) task.problem.values)
      ≡ true
  pub one_value : (i j : ℕ) (v w : Valued) → slice_get task.problem.values i ≡ Some v
      → slice_get task.problem.values j ≡ Some w → v.func ≡ w.func → v.args ≡ w.args → v.value ≡ w.value
  pub goal : is_fit_condition task.domain (length task.problem.objects) [] task.problem.goal ≡ true

-- ---- streams

-- atoms of static predicates
abbrev pub are_static_patterns : Domain → List Pattern → Bool
are_static_patterns domain patterns =
    list_all (λ (p : Pattern). is_static_role (role_of domain p.pred)) patterns

-- a cost stream has no outputs and certifies no atoms
abbrev pub is_fit_worth : Domain → Stream → Bool
is_fit_worth domain s = of s.worth
  where
    of : Option Worth → Bool
    of None = true
    of (Some worth) =
        is_empty s.outputs && is_empty s.certified
        && is_fit_application domain.functions (length domain.constants)
        (numbers_from 0 (length s.inputs)) worth.func worth.args

-- a stream as the reader gives it
abbrev pub is_fit_stream : Domain → Stream → Bool
is_fit_stream domain s =
    nat_le (length s.inputs) 8 && nat_le (length s.outputs) 8 && are_places (length domain.sorts) s.inputs
    && are_places (length domain.sorts) s.outputs
    && are_fit_patterns domain (length domain.constants) (numbers_from 0 (length s.inputs)) s.domain
    && are_static_patterns domain s.domain
    && are_fit_patterns domain (length domain.constants)
    (numbers_from 0 (length s.inputs + length s.outputs)) s.certified
    && are_static_patterns domain s.certified && is_fit_worth domain s

-- the slot stands in one of the atoms
abbrev pub is_used : ℕ → List Pattern → Bool
is_used slot patterns = list_any (λ (p : Pattern). list_any (is_slot slot) p.args) patterns

-- what has the second type has the first
abbrev pub is_type_of : Domain → ℕ → ℕ → Bool
is_type_of domain input output = list_any (λ s. s == input) (sorts_with domain output)

-- an output of this type may be an input of that type; the type `object` counts only for an input in no domain atom
abbrev pub is_fed : Domain → Stream → ℕ → List ℕ → ℕ → Bool
is_fed domain second slot [] output = false
is_fed domain second slot (input ∷ inputs) output =
    (is_type_of domain input output && (not (input == 0) || not (is_used slot second.domain)))
    || is_fed domain second (slot + 1) inputs output

-- what the first certifies may be what the second asks for
abbrev pub stream_leads : Domain → Stream → Stream → Bool
stream_leads domain first second =
    list_any (λ (p : Pattern). list_any (λ (q : Pattern). q.pred == p.pred) second.domain) first.certified
    || list_any (is_fed domain second 0 second.inputs) first.outputs

-- a stream certifies an atom of a predicate that the other's domain has
abbrev pub leads : Task → ℕ → ℕ → Bool
leads task from to = of (slice_get task.streams from) (slice_get task.streams to)
  where
    of : Option Stream → Option Stream → Bool
    of (Some first) (Some second) = stream_leads task.domain first second
    of None second = false
    of (Some first) None = false

-- streams, none of which leads to itself
pub record AreFitStreams (task : Task) : Type 0 where
  pub names : AreNames (map (λ (s : Stream). s.name) task.streams)
  pub each : (is_short task.streams && list_all (is_fit_stream task.domain) task.streams) ≡ true
  pub acyclic : (stream : ℕ) (between : List ℕ) → ¬ (LeadsAlong (leads task) stream between stream)

-- ---- tasks

-- a task as the readers give it
pub record IsFit (task : Task) : Type 0 where
  pub domain : IsFitDomain task.domain
  pub problem : IsFitProblem task
  pub streams : AreFitStreams task
