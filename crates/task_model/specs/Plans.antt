-- Plans, and the states that they reach.
use Rattle.std.specs.Prelude.{◌≡◌, ℕ, ◌+◌, ◌<◌, ◌≤◌, List, [], ◌∷◌, length, true, All}
use Rattle.task_model.specs.Initial.{initial_state}
use Rattle.task_model.specs.Known.{Known}
use Rattle.lemmas.specs.Lists.{AreDistinct}
use Rattle.task_model.specs.State.{Atoms}
use Rattle.task_model.specs.Steps.{IsStep}
use Rattle.task_model.specs.Truth.{slots_of, is_true}
use Rattle.task_model.specs.declared.task.GroundAction.{GroundAction}
use Rattle.task_model.specs.declared.task.Task.{Task}

-- The steps, one after another, lead from `before` to `after` and cost `total` together.
abbrev pub Executes : Task → Known → Atoms → List GroundAction → Atoms → ℕ → Type 0
Executes task known before [] after total = (before ≡ after) × (total ≡ 0)
Executes task known before (step ∷ steps) after total =
    (middle : Atoms) × (cost : ℕ) × (rest : ℕ) × IsStep task known before step middle cost
    × Executes task known middle steps after rest × (total ≡ cost + rest)

-- the goal is true in the state
abbrev pub IsGoal : Task → Known → Atoms → Type 0
IsGoal task known state = is_true task.domain known state task.problem.goal (slots_of []) ≡ true

-- The plan can be executed from the initial state, ends where the goal is true, and costs `cost`.
abbrev pub IsValid : Task → Known → List GroundAction → ℕ → Type 0
IsValid task known steps cost =
    (end : Atoms) × Executes task known (initial_state task) steps end cost × IsGoal task known end

-- there is a plan
abbrev pub IsSolvable : Task → Known → Type 0
IsSolvable task known = (steps : List GroundAction) × (cost : ℕ) × IsValid task known steps cost

-- a plan costs so much, and none costs less
pub record IsLeastCost (task : Task) (known : Known) (cost : ℕ) : Type 0 where
  pub steps : List GroundAction
  pub valid : IsValid task known steps cost
  pub least : (others : List GroundAction) (other : ℕ) → IsValid task known others other
      → cost ≤ other

-- some steps lead from the initial state to this one
abbrev pub IsReached : Task → Known → Atoms → Type 0
IsReached task known state =
    (steps : List GroundAction) × (cost : ℕ) × Executes task known (initial_state task) steps state cost

-- at most so many steps lead there
abbrev pub IsReachedWithin : Task → Known → ℕ → Atoms → Type 0
IsReachedWithin task known most state =
    (steps : List GroundAction) × (cost : ℕ) × (length steps ≤ most)
    × Executes task known (initial_state task) steps state cost

-- more than so many states are such
abbrev pub MoreThan : ℕ → (Atoms → Type 0) → Type 0
MoreThan most IsSuch =
    (states : List Atoms) × (most < length states) × AreDistinct states × All IsSuch states

-- More than so many states are reached, and so many also within the number of steps of any plan.
pub record IsFar (task : Task) (known : Known) (most : ℕ) : Type 0 where
  pub reached : MoreThan most (IsReached task known)
  pub nearer : (steps : List GroundAction) (cost : ℕ) → IsValid task known steps cost
      → MoreThan most (IsReachedWithin task known (length steps))
