-- What holds of the store, the agenda and the links while a search for a cheapest plan goes on.
use Rattle.std.specs.Prelude.{◌≡◌, ℕ, ◌+◌, ◌<◌, ◌≤◌, List, [], ◌∷◌, ◌++◌, length, Bool, true, false, Option, Some, None, slice_get, Contains}
use Rattle.grounder.specs.Applicable.{AreApplicable}
use Rattle.task_model.specs.Known.{Known}
use Rattle.task_model.specs.Plans.{IsGoal, IsReached, IsValid, MoreThan}
use Rattle.task_model.specs.State.{Atoms}
use Rattle.task_model.specs.Steps.{IsStep}
use Rattle.task_model.specs.declared.limits.TheConstants.{MOST_STATES}
use Rattle.task_model.specs.declared.task.GroundAction.{GroundAction}
use Rattle.task_model.specs.declared.task.Task.{Task}
use Rattle.best_first.specs.declared.tree.Link.{Link}
use Rattle.optimal_search.specs.Agenda.{IsAgenda, IsNextClosed, IsOpenNodeAt}
use Rattle.optimal_search.specs.Astar.{EachPassed, IsSearched, PassedBefore, PassedTo, Way}
use Rattle.optimal_search.specs.Nodes.{AreClosedNodes, AreNodes, IsOpenWay}
use Rattle.optimal_search.specs.declared.agenda.Node.{Node}
use Rattle.optimal_search.specs.declared.relax.Arrival.{Arrival}
use Rattle.optimal_search.specs.declared.relax.Expansion.{Expansion}
use Rattle.optimal_search.specs.declared.search.Search.{Search}

-- ---- what a step and a turn do

-- a state is stored, and was there or is new
abbrev pub Stores : List Atoms → Atoms → List Atoms → Bool → Type 0
Stores before after states true = (states ≡ before ++ after ∷ []) × ¬ (Contains before after)
Stores before after states false = states ≡ before

-- The step leads to a state that is stored at this place.
pub record Arrives (task : Task) (known : Known) (before : List Atoms) (source : Atoms) (step : GroundAction)
    (states : List Atoms) (arrival : Arrival) : Type 0 where
  pub after : Atoms
  pub leads : IsStep task known source step after arrival.cost
  pub small : arrival.cost ≤ 262144000000
  pub there : slice_get states arrival.place ≡ Some after
  pub stores : Stores before after states arrival.is_new

-- The open state of least rank is closed, and its link put behind the others.
pub record IsClosedNext (old new : Search) (place : ℕ) : Type 0 where
  pub link : Link
  pub next : IsNextClosed old.agenda new.agenda place link
  pub links : new.links.items ≡ old.links.items ++ link ∷ []
  pub store : new.store ≡ old.store

-- the same where a state is open, and else none is
abbrev pub ClosesNext : Search → Search → Option ℕ → Type 0
ClosesNext old new (Some place) = IsClosedNext old new place
ClosesNext old new None =
    (place : ℕ) (node : Node) (link : Link) → ¬ (IsOpenNodeAt old.agenda.nodes.items place node link)

-- ---- what holds at each moment

module _ (task : Task) (known : Known) (bound : Atoms → ℕ) (limit : ℕ) where
  -- Of the closed states so many were tested against the goal, and these steps were taken from them.
  pub record IsSoundSearch (search : Search) (tested : ℕ) (IsPassed : ℕ → GroundAction → Type 0) : Type 0 where
    pub closed : List Way
    pub few : length search.store ≤ limit
    pub most : limit ≤ MOST_STATES
    pub tree : AreClosedNodes task known closed search.links.items
    pub nodes : AreNodes task known bound closed search.store search.agenda.nodes.items
    pub queue : IsAgenda search.agenda
    pub searched : IsSearched task known closed (IsOpenWay search.store search.agenda.nodes.items) tested IsPassed

  -- between two turns each closed state was tested, and all steps were taken from it
  abbrev pub IsBetweenTurns : Search → Type 0
  IsBetweenTurns search = IsSoundSearch search (length search.links.items + 1) EachPassed

  -- The state at this place was closed last, and isn't tested yet. No plan costs less than the way to it.
  pub record IsJustClosed (search : Search) (place : ℕ) : Type 0 where
    pub sound : IsSoundSearch search (length search.links.items) (PassedBefore (length search.links.items))
    pub way : Way
    pub last : slice_get sound.closed (length search.links.items) ≡ Some way
    pub here : slice_get search.store place ≡ Some way.state
    pub node : Node
    pub at : slice_get search.agenda.nodes.items place ≡ Some node
    pub cost : node.cost ≡ way.cost
    pub lower : (steps : List GroundAction) (total : ℕ) → IsValid task known steps total → way.cost ≤ total

  -- So many of the steps were taken from the state that was closed last.
  pub record IsExpanding (search : Search) (from : Expansion) (done : ℕ) : Type 0 where
    pub sound : IsSoundSearch search (length search.links.items + 1) (PassedTo (length search.links.items) from.steps.items done)
    pub number : from.number ≡ length search.links.items
    pub last : slice_get sound.closed (length search.links.items)
        ≡ Some (record { state = from.state; cost = from.cost })
    pub here : slice_get search.store from.place ≡ Some from.state
    pub steps : AreApplicable task known from.state from.steps.items

  -- what holds after a step, if there are no more states than the limit allows
  abbrev pub Relaxes : Search → Expansion → ℕ → Bool → Type 0
  Relaxes search from done true = IsExpanding search from done
  Relaxes search from done false = MoreThan limit (IsReached task known)

-- The last of the states along the links is the only one that meets the goal, and no plan costs less than the way there.
pub record IsMetLeast (task : Task) (known : Known) (limit : ℕ) (links : List Link) : Type 0 where
  pub closed : List Way
  pub tree : AreClosedNodes task known closed links
  pub few : length links ≤ limit
  pub way : Way
  pub last : slice_get closed (length links) ≡ Some way
  pub goal : IsGoal task known way.state
  pub others : (k : ℕ) (w : Way) → k < length links → slice_get closed k ≡ Some w → ¬ (IsGoal task known w.state)
  pub lower : (steps : List GroundAction) (total : ℕ) → IsValid task known steps total → way.cost ≤ total
