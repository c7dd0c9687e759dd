-- Bounds that a search for a cheapest plan may trust.
use Rattle.std.specs.Prelude.{◌≡◌, ℕ, ◌+◌, ◌≤◌}
use Rattle.task_model.specs.Known.{Known}
use Rattle.task_model.specs.Plans.{IsGoal}
use Rattle.task_model.specs.State.{Atoms}
use Rattle.task_model.specs.Steps.{IsStep}
use Rattle.task_model.specs.declared.task.GroundAction.{GroundAction}
use Rattle.task_model.specs.declared.task.Task.{Task}

-- From a state to the next the bound falls by no more than the step costs, and where the goal is true it is 0.
pub record IsConsistent (task : Task) (known : Known) (bound : Atoms → ℕ) : Type 0 where
  pub falls : (before after : Atoms) (step : GroundAction) (cost : ℕ) → IsStep task known before step after cost
      → bound before ≤ cost + bound after
  pub goal : (state : Atoms) → IsGoal task known state → bound state ≡ 0

-- Each answer is the bound, no call changes it, and for what it was made for it is consistent.
pub record IsLawful {E : Type 0} (Tells : E → E → Atoms → ℕ → Type 0) (bound : E → Atoms → ℕ)
    (Suits : E → Task → Known → Type 0) : Type 0 where
  pub answers : (old new : E) (s : Atoms) (n : ℕ) → Tells old new s n → n ≡ bound old s
  pub same : (old new : E) (s : Atoms) (n : ℕ) → Tells old new s n → (t : Atoms) → bound new t ≡ bound old t
  pub suits : (old new : E) (s : Atoms) (n : ℕ) (task : Task) (known : Known) → Tells old new s n
      → Suits old task known → Suits new task known
  pub consistent : (e : E) (task : Task) (known : Known) → Suits e task known → IsConsistent task known (bound e)

-- what suited the estimate suits it still
abbrev pub StaysSuited : {E : Type 0} → (E → Task → Known → Type 0) → E → E → Type 0
StaysSuited Suits old new = (task : Task) (known : Known) → Suits old task known → Suits new task known
