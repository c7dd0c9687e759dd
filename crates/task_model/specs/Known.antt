-- What is known: the names of the objects, the facts about them, and the values of functions.
use Rattle.std.specs.Prelude.{ℕ, ◌≤◌, List, [], ◌∷◌, ◌++◌, Bool, true, false, ◌&&◌, ◌==◌, nat_eq, map, filter, min, All, IsSome, Option, None, Some, slice_get, if◌then◌else◌}
use Rattle.std.specs.List.{list_any, filter_map, slice_get}
use Rattle.std.specs.Cmp.Lexicographic.{pointwise}
use Rattle.lemmas.specs.Lists.{AreDistinct}
use Rattle.task_model.specs.declared.fact.Fact.{Fact}
use Rattle.task_model.specs.declared.fact.Kind.{Kind}
use Rattle.task_model.specs.declared.fact.Kind.TheVariants.{Predicate, Sort}
use Rattle.task_model.specs.declared.limits.TheConstants.{LARGEST_NUMBER}
use Rattle.task_model.specs.declared.task.Valued.{Valued}

-- The names of the objects, an object being its place; the facts; and the values of function terms.
pub record Known : Type 0 where
  pub names : List (List ℕ)
  pub facts : List Fact
  pub values : List Valued

abbrev pub same_numbers : List ℕ → List ℕ → Bool
same_numbers = pointwise nat_eq

-- the names with this one behind them, unless it is there
abbrev pub with_name : List (List ℕ) → List ℕ → List (List ℕ)
with_name names name = if list_any (same_numbers name) names then names else names ++ name ∷ []

-- the names with each of these behind them in turn
abbrev pub with_names : List (List ℕ) → List (List ℕ) → List (List ℕ)
with_names names [] = names
with_names names (name ∷ more) = with_names (with_name names name) more

-- ---- facts

abbrev pub same_kind : Kind → Kind → Bool
same_kind Predicate Predicate = true
same_kind Sort Sort = true
same_kind Predicate Sort = false
same_kind Sort Predicate = false

-- whether two facts are one
abbrev pub same_fact : Fact → Fact → Bool
same_fact a b = same_kind a.kind b.kind && (a.name == b.name) && same_numbers a.args b.args

-- whether a list has the fact
abbrev pub is_fact : List Fact → Fact → Bool
is_fact facts fact = list_any (same_fact fact) facts

-- the facts with this one behind them, unless it is there
abbrev pub with_fact : List Fact → Fact → List Fact
with_fact facts fact = if is_fact facts fact then facts else facts ++ fact ∷ []

-- the facts with each of these behind them in turn
abbrev pub with_facts : List Fact → List Fact → List Fact
with_facts facts [] = facts
with_facts facts (fact ∷ more) = with_facts (with_fact facts fact) more

-- that an object has a type
abbrev pub type_fact : ℕ → ℕ → Fact
type_fact sort object = record { kind = Sort; name = sort; args = object ∷ [] }

-- an atom of a predicate
abbrev pub atom_fact : ℕ → List ℕ → Fact
atom_fact pred args = record { kind = Predicate; name = pred; args = args }

-- the object of a fact, if that says that an object has this type
abbrev pub object_with : ℕ → Fact → Option ℕ
object_with sort fact = of fact.kind fact.args
  where
    of : Kind → List ℕ → Option ℕ
    of Sort (object ∷ []) = if fact.name == sort then Some object else None
    of kind args = None

-- the objects that have this type, in the order of their type facts
abbrev pub objects_of : List Fact → ℕ → List ℕ
objects_of facts sort = filter_map (object_with sort) facts

-- whether a fact is an atom of the predicate with this object at this place
abbrev pub is_match : ℕ → ℕ → ℕ → Fact → Bool
is_match pred place object fact =
    same_kind Predicate fact.kind && (fact.name == pred) && is_object (slice_get fact.args place)
  where
    is_object : Option ℕ → Bool
    is_object (Some o) = o == object
    is_object None = false

-- the atoms of the predicate that have this object at this place
abbrev pub matches_of : List Fact → ℕ → ℕ → ℕ → List Fact
matches_of facts pred place object = filter (is_match pred place object) facts

-- ---- values of functions

-- whether two values are one: of one term, and as great
abbrev pub same_value : Valued → Valued → Bool
same_value a b = (a.func == b.func) && same_numbers a.args b.args && (a.value == b.value)

-- the values with this one behind them, unless it is there
abbrev pub with_value : List Valued → Valued → List Valued
with_value values value =
    if list_any (same_value value) values then values else values ++ value ∷ []

-- the values with each of these behind them in turn
abbrev pub with_values : List Valued → List Valued → List Valued
with_values values [] = values
with_values values (value ∷ more) = with_values (with_value values value) more

-- the least of a number and those of a list
abbrev pub least_from : ℕ → List ℕ → ℕ
least_from m [] = m
least_from m (k ∷ ks) = least_from (min m k) ks

-- the least number of a list
abbrev pub least : List ℕ → Option ℕ
least [] = None
least (n ∷ ns) = Some (least_from n ns)

abbrev pub is_value_of : ℕ → List ℕ → Valued → Bool
is_value_of func args v = (v.func == func) && same_numbers v.args args

-- the least of the values that are known of a function term
abbrev pub value_of : List Valued → ℕ → List ℕ → Option ℕ
value_of values func args =
    least (map (λ (v : Valued). v.value) (filter (is_value_of func args) values))

-- ---- what holds of all that is known

-- the object has a name here
abbrev pub IsIn : List (List ℕ) → ℕ → Type 0
IsIn names object = IsSome (slice_get names object)

-- Names, facts and values stand once each, each object of a fact has a name, and values are costs.
pub record IsCoherent (known : Known) : Type 0 where
  pub names : AreDistinct known.names
  pub facts : AreDistinct known.facts
  pub values : AreDistinct known.values
  pub objects : All (λ (f : Fact). All (IsIn known.names) f.args) known.facts
  pub costs : All (λ (v : Valued). v.value ≤ LARGEST_NUMBER) known.values
