-- The bound by the shares of the goal atoms that are missing.
use Rattle.std.specs.Prelude.{◌≡◌, ℕ, ◌*◌, ◌<◌, List, map, Some, slice_get, if◌then◌else◌}
use Rattle.task_model.specs.Known.{Known}
use Rattle.task_model.specs.State.{Atoms, contains, from_list, items}
use Rattle.task_model.specs.Steps.{IsStep, atom_of, cost_of}
use Rattle.task_model.specs.Truth.{slots_of}
use Rattle.task_model.specs.declared.domain.Action.{Action}
use Rattle.task_model.specs.declared.task.GroundAction.{GroundAction}
use Rattle.task_model.specs.declared.task.Task.{Task}
use Rattle.optimal_search.specs.Bounds.{cut, goal_atoms, own_cost, up}
use Rattle.optimal_search.specs.Share.{AreFair, goals_of, owed}
use Rattle.optimal_search.specs.declared.share.Share.{Share}
use Rattle.optimal_search.specs.declared.shares.Shares.{Shares}
use Rattle.optimal_search.specs.declared.shares.TheConstants.{UNIT}

-- what the action adds with these arguments
abbrev pub adds_of : Action → List ℕ → Atoms
adds_of action args = from_list (map (atom_of (slots_of args)) action.adds)

-- A step of the action pays for the shares of all goal atoms that it adds.
abbrev pub PaysShares : Task → Known → Action → List Share → Type 0
PaysShares task known action shares =
    (before after : Atoms) (step : GroundAction) (cost : ℕ) (is : IsStep task known before step after cost)
    → is.action ≡ action → AreFair shares (contains (adds_of action step.args)) (cost * UNIT)

-- The shares are those of the goal's atoms, and each step pays for those of all goal atoms that it adds.
pub record AreSharesOf (task : Task) (known : Known) (estimate : Shares) : Type 0 where
  pub goals : goals_of estimate.shares.items ≡ items (goal_atoms task)
  pub paid : (number : ℕ) (action : Action) → slice_get task.domain.actions number ≡ Some action
      → PaysShares task known action estimate.shares.items

-- at least so much is still to be paid: the shares of what is missing
abbrev pub shares_left : Shares → Atoms → ℕ
shares_left estimate state = cut (up (owed estimate.shares.items (contains state)) UNIT)

-- ---- while they are made

-- with these arguments the action pays for the shares of all goal atoms that it adds
abbrev pub IsSharedStep : Task → Known → Action → List ℕ → List Share → Type 0
IsSharedStep task known action args shares =
    (cost : ℕ) → cost_of task known action args ≡ Some cost
    → AreFair shares (contains (adds_of action args)) (cost * UNIT)

-- the sum of the terms that are numbers, or 1 where the total cost isn't counted
abbrev pub own_least : Task → Action → ℕ
own_least task action = if task.problem.metric then own_cost action.costs else 1

-- so many of the actions pay for their shares
abbrev pub PayShares : Task → Known → ℕ → List Share → Type 0
PayShares task known passed shares =
    (number : ℕ) (action : Action) → number < passed → slice_get task.domain.actions number ≡ Some action
    → PaysShares task known action shares
