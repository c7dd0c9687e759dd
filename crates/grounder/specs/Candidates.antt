-- The arguments of actions that what is static allows.
use Rattle.std.specs.Prelude.{◌≡◌, ℕ, List, length, Bool, ◌&&◌, ◌||◌, is_some, Contains, true, ◌↔◌, Some, IfSome, Option, slice_get}
use Rattle.std.specs.List.{list_all}
use Rattle.std.specs.List.Sorted.{IsStrictlySortedBy}
use Rattle.std.specs.Cmp.Lexicographic.{slice_cmp}
use Rattle.std.specs.Ordering.{nat_cmp}
use Rattle.task_model.specs.Condition.{Condition}
use Rattle.task_model.specs.Known.{Known}
use Rattle.task_model.specs.State.{Atoms}
use Rattle.task_model.specs.Steps.{cost_of}
use Rattle.task_model.specs.Truth.{slots_of, have_types, is_true}
use Rattle.task_model.specs.declared.domain.Action.{Action}
use Rattle.task_model.specs.declared.domain.Domain.{Domain}
use Rattle.task_model.specs.declared.task.Task.{Task}
use Rattle.grounder.specs.Parts.{tops_of, is_static_part, is_settled}
use Rattle.grounder.specs.declared.candidates.Candidates.{Candidates}

-- These are the arguments that have the types of the action's parameters and make its static atoms known facts, each
-- once, in their order.
pub record AreCandidateRows (domain : Domain) (known : Known) (action : Action) (rows : List (List ℕ)) : Type 0 where
  pub ascending : IsStrictlySortedBy (slice_cmp nat_cmp) rows
  pub each : (args : List ℕ) → Contains rows args
      ↔ ((have_types known args action.params ≡ true)
      × (list_all (is_settled domain known (slots_of args)) (tops_of action.condition) ≡ true))

-- each action has a place, and where arguments stand there, they are its own
pub record AreCandidates (task : Task) (known : Known) (candidates : Candidates) : Type 0 where
  pub places : length candidates.actions ≡ length task.domain.actions
  pub each : (number : ℕ) (action : Action) (rows : Option (List (List ℕ)))
      → slice_get task.domain.actions number ≡ Some action
      → slice_get candidates.actions number ≡ Some rows
      → IfSome rows (AreCandidateRows task.domain known action)

-- it is true, or an atom of a static predicate
abbrev pub is_part_open : Domain → Known → Atoms → List ℕ → Condition → Bool
is_part_open domain known state slots part =
    is_static_part domain part || is_true domain known state part slots

-- all parts of the condition are true but for the static atoms, and the cost has a value
abbrev pub can_go_on : Task → Known → Atoms → Action → List ℕ → Bool
can_go_on task known state action args =
    list_all (is_part_open task.domain known state (slots_of args)) (tops_of action.condition)
    && is_some (cost_of task known action args)
