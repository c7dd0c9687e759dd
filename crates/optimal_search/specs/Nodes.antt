-- What the stored states are to the closed ones: each is closed, or open by a step from a closed one.
use Rattle.std.specs.Prelude.{◌≡◌, ℕ, ◌+◌, ◌*◌, ◌≤◌, List, length, map, Option, None, Some, slice_get, Contains}
use Rattle.lemmas.specs.Lists.{AreDistinct}
use Rattle.task_model.specs.Known.{Known}
use Rattle.task_model.specs.Plans.{IsReached}
use Rattle.task_model.specs.State.{Atoms}
use Rattle.task_model.specs.Steps.{IsStep}
use Rattle.task_model.specs.declared.task.Task.{Task}
use Rattle.best_first.specs.Explored.{IsTree}
use Rattle.best_first.specs.declared.tree.Link.{Link}
use Rattle.optimal_search.specs.Agenda.{IsOpenNodeAt}
use Rattle.optimal_search.specs.Astar.{IsClosedIn, Way}
use Rattle.optimal_search.specs.declared.agenda.Node.{Node}

-- the states to which the ways lead
abbrev pub way_states : List Way → List Atoms
way_states ways = map (λ (w : Way). w.state) ways

-- a way to an open state, as its node tells it
abbrev pub IsOpenWay : List Atoms → List Node → Way → Type 0
IsOpenWay states nodes w =
    (n : ℕ) × (node : Node) × (link : Link) × (slice_get states n ≡ Some w.state) × IsOpenNodeAt nodes n node link
    × (node.cost ≡ w.cost)

module _ (task : Task) (known : Known) where
  -- The closed states form a tree by their links, and each way costs what the one to the parent costs and the link.
  pub record AreClosedNodes (closed : List Way) (links : List Link) : Type 0 where
    pub tree : IsTree task known (way_states closed) links
    pub start : (w : Way) → slice_get closed 0 ≡ Some w → w.cost ≡ 0
    pub sums : (n : ℕ) (link : Link) (from to : Way) → slice_get links n ≡ Some link
        → slice_get closed link.parent ≡ Some from → slice_get closed (n + 1) ≡ Some to
        → to.cost ≡ from.cost + link.cost
    pub small : (k : ℕ) (w : Way) → slice_get closed k ≡ Some w → w.cost ≤ 262144000000 * k

  module _ (bound : Atoms → ℕ) (closed : List Way) where
    -- The state isn't closed, and the link is the last step of a way there, from a closed state.
    pub record IsOpenNode (state : Atoms) (node : Node) (link : Link) : Type 0 where
      pub apart : ¬ (IsClosedIn closed state)
      pub from : Way
      pub parent : slice_get closed link.parent ≡ Some from
      pub step : IsStep task known from.state link.step state link.cost
      pub small : link.cost ≤ 262144000000
      pub cost : node.cost ≡ from.cost + link.cost
      pub left : node.left ≡ bound state

    -- the node of the state, by what it has for the last step
    abbrev pub IsNode : Atoms → Node → Option Link → Type 0
    IsNode state node None = IsClosedIn closed state
    IsNode state node (Some link) = IsOpenNode state node link

    -- The stored states are distinct and reached, each has its node, and all closed ones are stored.
    pub record AreNodes (states : List Atoms) (nodes : List Node) : Type 0 where
      pub many : length nodes ≡ length states
      pub distinct : AreDistinct states
      pub reached : (n : ℕ) (state : Atoms) → slice_get states n ≡ Some state → IsReached task known state
      pub stored : (k : ℕ) (w : Way) → slice_get closed k ≡ Some w → Contains states w.state
      pub each : (n : ℕ) (state : Atoms) (node : Node) → slice_get states n ≡ Some state
          → slice_get nodes n ≡ Some node → IsNode state node node.last
