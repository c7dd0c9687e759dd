-- What holds of the states that are closed, one after another, the open one of least rank next.
use Rattle.std.specs.Prelude.{◌≡◌, ℕ, ◌+◌, ◌<◌, ◌≤◌, ◌⊎◌, List, Some, slice_get}
use Rattle.task_model.specs.Initial.{initial_state}
use Rattle.task_model.specs.Known.{Known}
use Rattle.task_model.specs.Plans.{Executes, IsGoal}
use Rattle.task_model.specs.State.{Atoms}
use Rattle.task_model.specs.Steps.{IsStep}
use Rattle.task_model.specs.declared.task.GroundAction.{GroundAction}
use Rattle.task_model.specs.declared.task.Task.{Task}

-- a state to which a way is known, and what that costs
pub record Way : Type 0 where
  pub state : Atoms
  pub cost : ℕ

-- one of the ways leads to the state
abbrev pub IsClosedIn : List Way → Atoms → Type 0
IsClosedIn closed state = (k : ℕ) × (w : Way) × (slice_get closed k ≡ Some w) × (w.state ≡ state)

-- an open way leads to the state and costs at most so much
abbrev pub IsKnownFor : (Way → Type 0) → Atoms → ℕ → Type 0
IsKnownFor IsOpen state most = (w : Way) × IsOpen w × (w.state ≡ state) × (w.cost ≤ most)

-- all steps were taken from each closed state
abbrev pub EachPassed : ℕ → GroundAction → Type 0
EachPassed k step = Unit {0}

-- all steps were taken from the closed states before this one
abbrev pub PassedBefore : ℕ → ℕ → GroundAction → Type 0
PassedBefore last k step = k < last

-- all steps were taken from the closed states before this one, and so many of these from it
abbrev pub PassedTo : ℕ → List GroundAction → ℕ → ℕ → GroundAction → Type 0
PassedTo last steps done k step =
    (k < last) ⊎ ((k ≡ last) × (n : ℕ) × (n < done) × (slice_get steps n ≡ Some step))

-- The closed states with what the ways to them cost, in the order of closing, the initial one first: no way to one
-- costs less, those that were tested don't meet the goal, and each step that was taken from one leads to a closed state,
-- or to an open one to which a way is known that costs no more.
pub record IsSearched (task : Task) (known : Known) (closed : List Way) (IsOpen : Way → Type 0) (tested : ℕ)
    (IsPassed : ℕ → GroundAction → Type 0) : Type 0 where
  pub first : (w : Way) × (slice_get closed 0 ≡ Some w) × (w.state ≡ initial_state task)
  pub least : (k : ℕ) (w : Way) (steps : List GroundAction) (total : ℕ) → slice_get closed k ≡ Some w
      → Executes task known (initial_state task) steps w.state total → w.cost ≤ total
  pub none_meets : (k : ℕ) (w : Way) → k < tested → slice_get closed k ≡ Some w → ¬ (IsGoal task known w.state)
  pub covered : (k : ℕ) (w : Way) (after : Atoms) (step : GroundAction) (cost : ℕ) → slice_get closed k ≡ Some w
      → IsPassed k step → IsStep task known w.state step after cost
      → IsClosedIn closed after ⊎ IsKnownFor IsOpen after (w.cost + cost)
