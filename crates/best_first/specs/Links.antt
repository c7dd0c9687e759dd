-- Links from states to earlier ones, and the way along them. The link at place n is that of the state n + 1.
use Rattle.std.specs.Prelude.{◌≡◌, ℕ, ◌+◌, ◌≤◌, List, [], ◌∷◌, Some, slice_get}
use Rattle.task_model.specs.declared.task.GroundAction.{GroundAction}
use Rattle.best_first.specs.declared.tree.Link.{Link}

-- Each link leads to an earlier state, and no step costs more than a step can.
pub record AreLinks (links : List Link) : Type 0 where
  pub earlier : (n : ℕ) (link : Link) → slice_get links n ≡ Some link → link.parent ≤ n
  pub small : (n : ℕ) (link : Link) → slice_get links n ≡ Some link → link.cost ≤ 262144000000

-- the steps go along links, from one state to another, and cost so much together
abbrev pub FollowsLink : List Link → ℕ → List GroundAction → ℕ → ℕ → Type 0
FollowsLink links from [] to total = (from ≡ to) × (total ≡ 0)
FollowsLink links from (step ∷ steps) to total =
    (n : ℕ) × (link : Link) × (rest : ℕ) × (slice_get links n ≡ Some link) × (link.parent ≡ from) × (link.step ≡ step)
    × FollowsLink links (n + 1) steps to rest × (total ≡ link.cost + rest)
