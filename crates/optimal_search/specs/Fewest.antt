-- The bound by the number of goal atoms that are missing.
use Rattle.std.specs.Prelude.{◌≡◌, ℕ, ◌*◌}
use Rattle.task_model.specs.State.{Atoms}
use Rattle.task_model.specs.declared.task.Task.{Task}
use Rattle.optimal_search.specs.Bounds.{cut, goal_atoms, least_cost, missing, up, widest}
use Rattle.optimal_search.specs.declared.fewest.Fewest.{Fewest}

-- The estimate was made for the task.
pub record IsFewestOf (task : Task) (estimate : Fewest) : Type 0 where
  pub goals : estimate.goals ≡ goal_atoms task
  pub width : estimate.width ≡ widest task.domain.actions
  pub least : estimate.least ≡ least_cost task

-- at least so much is still to be paid, since each step adds at most `width` of the atoms that are missing, and costs
-- at least `least`
abbrev pub fewest : Fewest → Atoms → ℕ
fewest estimate state = cut (up (estimate.least * missing estimate.goals state) estimate.width)
