-- The predicates that occur in conditions, and what they rest on, as lists.
use Rattle.std.specs.Prelude.{◌≡◌, ℕ, ◌==◌, Bool, true, false, List, [], ◌∷◌, ◌++◌, filter, if◌then◌else◌}
use Rattle.std.specs.List.{flat_map}
use Rattle.lemmas.specs.Lists.{has_number}
use Rattle.name_tables.specs.Graphs.{HasWay}
use Rattle.task_model.specs.Condition.{Condition, Conditions, Atom, Equal, All as every, Any, Not, Exists, none, more}
use Rattle.task_model.specs.Roles.{role_of}
use Rattle.task_model.specs.declared.domain.Derived.{Derived}
use Rattle.task_model.specs.declared.domain.Domain.{Domain}
use Rattle.task_model.specs.declared.domain.Role.{Role}
use Rattle.task_model.specs.declared.domain.Role.TheVariants as role

-- those of the whole condition, as they come; or, without `outside`, those inside an `exists` of it
abbrev mutual
  pub occurring_in : Bool → Condition → List ℕ
  occurring_in outside (Atom pred args) = if outside then pred ∷ [] else []
  occurring_in outside (Equal s t) = []
  occurring_in outside (every parts) = all_occurring_in outside parts
  occurring_in outside (Any parts) = all_occurring_in outside parts
  occurring_in outside (Not part) = occurring_in outside part
  occurring_in outside (Exists first sorts body) = occurring_in true body

  pub all_occurring_in : Bool → Conditions → List ℕ
  all_occurring_in outside none = []
  all_occurring_in outside (more part parts) = occurring_in outside part ++ all_occurring_in outside parts

-- those in the item's body, where it heads the predicate
abbrev pub occurring_in_body : ℕ → Derived → List ℕ
occurring_in_body pred d = if d.pred == pred then occurring_in true d.body else []

-- those in the bodies of the predicate's items
abbrev pub below_in : List Derived → ℕ → List ℕ
below_in items pred = flat_map (occurring_in_body pred) items

-- There is a way to the number from one of these.
pub record IsWay (edges : List (List ℕ)) (starts : List ℕ) (number : ℕ) : Type 0 where
  pub start : ℕ
  pub begins : has_number starts start ≡ true
  pub way : HasWay edges start number

abbrev pub is_fluent_role : Role → Bool
is_fluent_role role.Static = false
is_fluent_role role.Fluent = true
is_fluent_role role.Derived = false

-- those that are fluents
abbrev pub fluents_of : Domain → List ℕ → List ℕ
fluents_of domain preds = filter (λ p. is_fluent_role (role_of domain p)) preds
