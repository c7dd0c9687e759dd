-- What a search for a cheapest plan comes to.
use Rattle.std.specs.Prelude.{ℕ, true}
use Rattle.task_model.specs.Known.{Known}
use Rattle.task_model.specs.Plans.{IsLeastCost, IsReached, MoreThan}
use Rattle.task_model.specs.State.{Atoms}
use Rattle.task_model.specs.declared.task.Task.{Task}
use Rattle.best_first.specs.Outcome.{IsAll}
use Rattle.best_first.specs.declared.found.Found.{Found}
use Rattle.best_first.specs.declared.found.Found.TheVariants.{Plan, Nothing, Limit}
use Rattle.optimal_search.specs.Searches.{IsBetweenTurns, IsMetLeast}
use Rattle.optimal_search.specs.declared.astar.Explored.{Explored}
use Rattle.optimal_search.specs.declared.astar.Explored.TheVariants as explored
use Rattle.optimal_search.specs.declared.astar.Turn.{Turn}
use Rattle.optimal_search.specs.declared.astar.Turn.TheVariants as turn
use Rattle.optimal_search.specs.declared.search.Search.{Search}

-- the cost of a plan that is answered is the least that a plan has
abbrev pub IsCheapest : Task → Known → Found → Type 0
IsCheapest task known (Plan plan cost) = IsLeastCost task known cost
IsCheapest task known Nothing = Unit {0}
IsCheapest task known Limit = Unit {0}

-- what holds after a turn
abbrev pub Visits : Task → Known → (Atoms → ℕ) → ℕ → Search → Turn → Type 0
Visits task known bound limit search turn.On = IsBetweenTurns task known bound limit search
Visits task known bound limit search turn.Goal = IsMetLeast task known limit search.links.items
Visits task known bound limit search turn.More = MoreThan limit (IsReached task known)

-- what an exploration comes to
abbrev pub ComesToLeast : Task → Known → ℕ → Explored → Type 0
ComesToLeast task known limit (explored.Goal links) = IsMetLeast task known limit links.items
ComesToLeast task known limit explored.All = IsAll task known true limit
ComesToLeast task known limit explored.More = MoreThan limit (IsReached task known)
