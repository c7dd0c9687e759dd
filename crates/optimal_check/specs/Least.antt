-- What a search for a cheapest plan comes to.
use Rattle.std.specs.Prelude.{◌↔◌, ℕ}
use Rattle.best_first.specs.Answer.{HasPlan, IsLimit, IsNothing}
use Rattle.best_first.specs.declared.found.Found.{Found}
use Rattle.optimal_search.specs.Answer.{IsCheapest}
use Rattle.task_model.specs.Known.{Known}
use Rattle.task_model.specs.Plans.{IsReached, IsSolvable, MoreThan}
use Rattle.task_model.specs.declared.task.Task.{Task}

-- A valid plan with its cost, than which none costs less; that there is no plan; or that more states are reached.
pub record IsLeastFound (task : Task) (known : Known) (limit : ℕ) (found : Found) : Type 0 where
  pub plan : HasPlan task known limit found
  pub least : IsCheapest task known found
  pub nothing : IsNothing found ↔ ((¬ (IsSolvable task known)) × (¬ (MoreThan limit (IsReached task known))))
  pub limited : IsLimit found → MoreThan limit (IsReached task known)
