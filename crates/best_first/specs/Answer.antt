-- What a search answers.
use Rattle.std.specs.Prelude.{◌≡◌, ℕ, ◌<◌, ◌≤◌, List, length, take, Bool, true, false, Option, Some, None}
use Rattle.task_model.specs.Initial.{initial_state}
use Rattle.task_model.specs.Known.{Known}
use Rattle.task_model.specs.Plans.{Executes, IsGoal, IsReached, IsSolvable, IsValid, MoreThan}
use Rattle.task_model.specs.State.{Atoms}
use Rattle.task_model.specs.declared.task.GroundAction.{GroundAction}
use Rattle.task_model.specs.declared.task.Task.{Task}
use Rattle.best_first.specs.declared.found.Found.{Found}
use Rattle.best_first.specs.declared.found.Found.TheVariants.{Plan, Nothing, Limit}

-- so many of the steps lead from the initial state to this one
abbrev pub LeadsTo : Task → Known → List GroundAction → ℕ → Atoms → Type 0
LeadsTo task known steps count state =
    (cost : ℕ) × (count ≤ length steps)
    × Executes task known (initial_state task) (take count steps) state cost

-- The steps are a valid plan of this cost, and at most so many; their states are distinct, and only the last meets the
-- goal.
pub record IsFoundPlan (task : Task) (known : Known) (limit : ℕ) (steps : List GroundAction) (cost : ℕ) : Type 0 where
  pub valid : IsValid task known steps cost
  pub few : length steps ≤ limit
  pub distinct : (m n : ℕ) (state : Atoms) → LeadsTo task known steps m state
      → LeadsTo task known steps n state → m ≡ n
  pub only_last : (n : ℕ) (state : Atoms) → n < length steps → LeadsTo task known steps n state
      → ¬ (IsGoal task known state)

-- a plan that is answered is such
abbrev pub HasPlan : Task → Known → ℕ → Found → Type 0
HasPlan task known limit (Plan plan cost) = IsFoundPlan task known limit plan.steps cost
HasPlan task known limit Nothing = Unit {0}
HasPlan task known limit Limit = Unit {0}

-- the answer is that there is no plan
abbrev pub IsNothing : Found → Type 0
IsNothing (Plan plan cost) = ⊥
IsNothing Nothing = Unit {0}
IsNothing Limit = ⊥

-- the answer is that there are too many states
abbrev pub IsLimit : Found → Type 0
IsLimit (Plan plan cost) = ⊥
IsLimit Nothing = ⊥
IsLimit Limit = Unit {0}

-- there is a plan, or there is none, and at most so many states are reached; or more are
abbrev pub IsSolvableWithin : Task → Known → ℕ → Option Bool → Type 0
IsSolvableWithin task known most (Some true) =
    IsSolvable task known × ¬ (MoreThan most (IsReached task known))
IsSolvableWithin task known most (Some false) =
    ¬ (IsSolvable task known) × ¬ (MoreThan most (IsReached task known))
IsSolvableWithin task known most None = MoreThan most (IsReached task known)
