-- The steps of one action.
use Rattle.std.specs.Prelude.{◌≡◌, ℕ, List, ◌++◌, Bool, ◌&&◌, is_some, Contains, true, ◌↔◌}
use Rattle.std.specs.List.Sorted.{IsStrictlySortedBy}
use Rattle.std.specs.Cmp.Lexicographic.{slice_cmp}
use Rattle.std.specs.Ordering.{nat_cmp}
use Rattle.task_model.specs.Known.{Known}
use Rattle.task_model.specs.State.{Atoms}
use Rattle.task_model.specs.Steps.{cost_of}
use Rattle.task_model.specs.Truth.{slots_of, have_types, is_true}
use Rattle.task_model.specs.declared.domain.Action.{Action}
use Rattle.task_model.specs.declared.task.GroundAction.{GroundAction}
use Rattle.task_model.specs.declared.task.Task.{Task}
use Rattle.grounder.specs.Applicable.{IsApplicable, step_cmp}

-- the condition is true of the objects, and the cost has a value
abbrev pub can_take : Task → Known → Atoms → Action → List ℕ → Bool
can_take task known state action args =
    is_true task.domain known state action.condition (slots_of args) && is_some (cost_of task known action args)

-- These are the arguments with which the action can be taken, each once, in their order.
pub record AreArguments (task : Task) (known : Known) (state : Atoms) (action : Action)
    (rows : List (List ℕ)) : Type 0 where
  pub ascending : IsStrictlySortedBy (slice_cmp nat_cmp) rows
  pub each : (args : List ℕ) → Contains rows args
      ↔ ((have_types known args action.params ≡ true) × (can_take task known state action args ≡ true))

-- These are the steps of one action that can be taken, each once, in their order.
pub record AreStepsOf (task : Task) (known : Known) (state : Atoms) (number : ℕ)
    (steps : List GroundAction) : Type 0 where
  pub ascending : IsStrictlySortedBy step_cmp steps
  pub each : (step : GroundAction) → Contains steps step
      → (step.action ≡ number) × IsApplicable task known state step
  pub every : (step : GroundAction) → step.action ≡ number → IsApplicable task known state step
      → Contains steps step

-- behind the old steps stand those of the action
abbrev pub AddsSteps : Task → Known → Atoms → ℕ → List GroundAction → List GroundAction → Type 0
AddsSteps task known state number old new =
    (more : List GroundAction) × (new ≡ old ++ more) × AreStepsOf task known state number more
