-- What an exploration comes to.
use Rattle.std.specs.Prelude.{◌≡◌, ◌∷◌, [], ℕ, Bool, true}
use Rattle.task_model.specs.Initial.{initial_state}
use Rattle.task_model.specs.Known.{Known}
use Rattle.task_model.specs.Plans.{IsReached, IsSolvable, MoreThan}
use Rattle.task_model.specs.declared.task.Task.{Task}
use Rattle.best_first.specs.Explored.{IsMet, IsBeyond}
use Rattle.best_first.specs.declared.explore.End.{End}
use Rattle.best_first.specs.declared.explore.End.TheVariants as end
use Rattle.best_first.specs.declared.explore.Explored as found
use Rattle.best_first.specs.declared.explore.Explored.TheVariants.{Goal, All, More}
use Rattle.best_first.specs.declared.tree.Tree.{Tree}

-- It is the tree of the initial state alone.
pub record BeginsAt (task : Task) (tree : Tree) : Type 0 where
  pub states : tree.store ≡ initial_state task ∷ []
  pub links : tree.links.items ≡ []

-- what an exploration comes to that ended so with this tree
abbrev pub explored_as : Tree → End → found.Explored
explored_as tree end.Goal = Goal tree
explored_as tree end.All = All
explored_as tree end.More = More

-- At most so many states are reached, and, where the goal is sought, there is no plan.
pub record IsAll (task : Task) (known : Known) (seeks : Bool) (limit : ℕ) : Type 0 where
  pub few : ¬ (MoreThan limit (IsReached task known))
  pub none : seeks ≡ true → ¬ (IsSolvable task known)

abbrev pub ComesTo : Task → Known → Bool → ℕ → found.Explored → Type 0
ComesTo task known seeks limit (Goal tree) =
    IsMet task known seeks limit tree.store tree.links.items
ComesTo task known seeks limit All = IsAll task known seeks limit
ComesTo task known seeks limit More = IsBeyond task known seeks limit

-- the same where nothing is known of more states
abbrev pub ComesWithin : Task → Known → ℕ → found.Explored → Type 0
ComesWithin task known limit (Goal tree) = IsMet task known true limit tree.store tree.links.items
ComesWithin task known limit All = IsAll task known true limit
ComesWithin task known limit More = Unit {0}
