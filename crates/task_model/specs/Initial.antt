-- What is known and true at first (PDDL 2.1).
use Rattle.std.specs.Prelude.{ℕ, ◌+◌, List, [], ◌∷◌, ◌++◌, map, filter, Bool, true, false, Option, None, Some, slice_get, option_map, unwrap_or}
use Rattle.std.specs.List.{flat_map, filter_map}
use Rattle.task_model.specs.Known.{Known, type_fact, with_facts, with_values}
use Rattle.task_model.specs.Roles.{role_of}
use Rattle.task_model.specs.State.{Atoms, from_list}
use Rattle.task_model.specs.declared.domain.Declared.{Declared}
use Rattle.task_model.specs.declared.domain.Domain.{Domain}
use Rattle.task_model.specs.declared.domain.Role.{Role}
use Rattle.task_model.specs.declared.domain.Role.TheVariants.{Static, Fluent, Derived}
use Rattle.task_model.specs.declared.domain.Sort as sorts
use Rattle.task_model.specs.declared.fact.Atom.{Atom}
use Rattle.task_model.specs.declared.fact.Fact.{Fact}
use Rattle.task_model.specs.declared.fact.Kind.{Kind}
use Rattle.task_model.specs.declared.fact.Kind.TheVariants.{Predicate, Sort}
use Rattle.task_model.specs.declared.task.Task.{Task}

-- ---- types

-- the type and all its supertypes; every object has type `object`, which is sort 0
abbrev pub sorts_with : Domain → ℕ → List ℕ
sorts_with domain sort =
    sort ∷ unwrap_or (option_map (λ (s : sorts.Sort). s.above) (slice_get domain.sorts sort)) [] ++ 0 ∷ []

-- that the object has the type, with all supertypes
abbrev pub type_facts : Domain → ℕ → ℕ → List Fact
type_facts domain sort object = map (λ s. type_fact s object) (sorts_with domain sort)

-- the types of declared objects, the first of which is the object of this number; one without a type has type `object`
abbrev pub declared_types : Domain → ℕ → List Declared → List Fact
declared_types domain object [] = []
declared_types domain object (d ∷ ds) =
    flat_map (λ sort. type_facts domain sort object) (d.sorts ++ 0 ∷ []) ++ declared_types domain (object + 1) ds

-- ---- atoms in `:init`

-- whether a member of `:init` is a fact: a type fact, or an atom of a static predicate
abbrev pub is_static_by : Kind → Role → Bool
is_static_by Predicate Static = true
is_static_by Predicate Fluent = false
is_static_by Predicate Derived = false
is_static_by Sort role = false

-- an atom of a static predicate
abbrev pub is_static : Domain → Fact → Bool
is_static domain fact = is_static_by fact.kind (role_of domain fact.name)

-- an atom of `:init` that is one of the state
abbrev pub fluent_by : Fact → Kind → Role → Option Atom
fluent_by fact Predicate Fluent = Some (record { pred = fact.name; args = fact.args })
fluent_by fact Predicate Static = None
fluent_by fact Predicate Derived = None
fluent_by fact Sort role = None

-- the atom, if it is one of a fluent
abbrev pub fluent_atom : Domain → Fact → Option Atom
fluent_atom domain fact = fluent_by fact fact.kind (role_of domain fact.name)

-- ---- the task at first

-- the types of the declared objects, and the static atoms of `:init`, each once
abbrev pub initial_facts : Task → List Fact
initial_facts task =
    with_facts []
    (declared_types task.domain 0 task.problem.objects ++ filter (is_static task.domain) task.problem.init)

-- the names of the declared objects, in the task's order
abbrev pub declared_names : Task → List (List ℕ)
declared_names task = map (λ (d : Declared). d.name) task.problem.objects

-- what is known before any stream has answered
abbrev pub initial_known : Task → Known
initial_known task =
    record { names = declared_names task; facts = initial_facts task; values = with_values [] task.problem.values }

-- the state from which plans start: the atoms of fluents in `:init`
abbrev pub initial_state : Task → Atoms
initial_state task = from_list (filter_map (fluent_atom task.domain) task.problem.init)
