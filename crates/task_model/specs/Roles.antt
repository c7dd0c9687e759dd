-- What changes a predicate's atoms (PDDL 2.2).
use Rattle.std.specs.Prelude.{ℕ, ◌++◌, Bool, ◌==◌, if◌then◌else◌}
use Rattle.std.specs.List.{list_any}
use Rattle.task_model.specs.declared.domain.Action.{Action}
use Rattle.task_model.specs.declared.domain.Derived as derived
use Rattle.task_model.specs.declared.domain.Domain.{Domain}
use Rattle.task_model.specs.declared.domain.Pattern.{Pattern}
use Rattle.task_model.specs.declared.domain.Role.{Role}
use Rattle.task_model.specs.declared.domain.Role.TheVariants.{Static, Fluent, Derived}

-- a `:derived` item heads it
abbrev pub is_derived : Domain → ℕ → Bool
is_derived domain pred = list_any (λ (d : derived.Derived). d.pred == pred) domain.derived

-- it occurs in an action's effect
abbrev pub is_changed : Domain → ℕ → Bool
is_changed domain pred =
    list_any (λ (a : Action). list_any (λ (p : Pattern). p.pred == pred) (a.adds ++ a.deletes)) domain.actions

-- derived where an item heads it, else a fluent where an effect has it, else static
unfoldable pub role_of : Domain → ℕ → Role
role_of domain pred =
    if is_derived domain pred then Derived else (if is_changed domain pred then Fluent else Static)
