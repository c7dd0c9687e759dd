-- What holds while states are explored, nearest first.
use Rattle.std.specs.Prelude.{◌≡◌, ℕ, ◌+◌, ◌<◌, ◌≤◌, List, [], ◌∷◌, ◌++◌, length, Bool, true, Option, None, Some, slice_get, Contains}
use Rattle.task_model.specs.Initial.{initial_state}
use Rattle.task_model.specs.Known.{Known}
use Rattle.lemmas.specs.Lists.{AreDistinct}
use Rattle.task_model.specs.Plans.{IsGoal, IsReached, IsReachedWithin, IsFar, MoreThan}
use Rattle.task_model.specs.State.{Atoms}
use Rattle.task_model.specs.Steps.{IsStep}
use Rattle.task_model.specs.declared.task.GroundAction.{GroundAction}
use Rattle.task_model.specs.declared.task.Task.{Task}
use Rattle.best_first.specs.Links.{AreLinks}
use Rattle.best_first.specs.declared.expand.Turn.{Turn}
use Rattle.best_first.specs.declared.expand.Turn.TheVariants.{On, Goal, More}
use Rattle.best_first.specs.declared.tree.Link.{Link}

module _ (task : Task) (known : Known) where
  -- the link says by which step the state at the next place was reached
  pub record IsLink (states : List Atoms) (n : ℕ) (link : Link) : Type 0 where
    pub before : Atoms
    pub after : Atoms
    pub from : slice_get states link.parent ≡ Some before
    pub to : slice_get states (n + 1) ≡ Some after
    pub step : IsStep task known before link.step after link.cost

  -- The states are distinct, the initial one first, and each other one has its link.
  pub record IsTree (states : List Atoms) (links : List Link) : Type 0 where
    pub first : slice_get states 0 ≡ Some (initial_state task)
    pub distinct : AreDistinct states
    pub linked : length states ≡ length links + 1
    pub earlier : AreLinks links
    pub each : (n : ℕ) (link : Link) → slice_get links n ≡ Some link → IsLink states n link

  -- the state meets the goal, where that is sought
  abbrev pub ExploringEnds : Bool → Atoms → Type 0
  ExploringEnds seeks state = (seeks ≡ true) × IsGoal task known state

  -- The states before `done` were expanded. Those before `edge` are all that are reached within `level`
  -- steps, and the others are one step further.
  pub record IsExplored (seeks : Bool) (limit : ℕ) (states : List Atoms) (links : List Link) (done : ℕ) : Type 0 where
    pub level : ℕ
    pub edge : ℕ
    pub tree : IsTree states links
    pub few : length states ≤ limit
    pub none_ends : (n : ℕ) (s : Atoms) → slice_get states n ≡ Some s → ¬ (ExploringEnds seeks s)
    pub expanded : (n : ℕ) (s after : Atoms) (step : GroundAction) (cost : ℕ) → n < done
        → slice_get states n ≡ Some s → IsStep task known s step after cost → Contains states after
    pub done_within : done ≤ edge
    pub edge_within : edge ≤ length states
    pub inner : (s : Atoms) → IsReachedWithin task known level s
        → (n : ℕ) × (n < edge) × (slice_get states n ≡ Some s)
    pub near : (n : ℕ) (s : Atoms) → n < edge → slice_get states n ≡ Some s
        → IsReachedWithin task known level s
    pub outer : (n : ℕ) (s : Atoms) → slice_get states n ≡ Some s
        → IsReachedWithin task known (level + 1) s

  -- The step leads from the state at `from` to one that is new, which was added at this place with its link.
  pub record IsAdded (before : List Atoms) (earlier : List Link) (from : ℕ) (source : Atoms) (step : GroundAction)
      (states : List Atoms) (links : List Link) (id cost : ℕ) : Type 0 where
    pub after : Atoms
    pub leads : IsStep task known source step after cost
    pub small : cost ≤ 262144000000
    pub fresh : ¬ (Contains before after)
    pub states_are : states ≡ before ++ after ∷ []
    pub links_are : links ≡ earlier ++ record { parent = from; step = step; cost = cost } ∷ []
    pub place : slice_get states id ≡ Some after

  -- the step leads to a state that was there, and nothing is added
  pub record IsKept (before : List Atoms) (earlier : List Link) (source : Atoms) (step : GroundAction)
      (states : List Atoms) (links : List Link) : Type 0 where
    pub after : Atoms
    pub cost : ℕ
    pub leads : IsStep task known source step after cost
    pub there : Contains before after
    pub states_are : states ≡ before
    pub links_are : links ≡ earlier

  -- what becomes of the states by one step from the one at `from`
  abbrev pub GrowsByStep : List Atoms → List Link → ℕ → Atoms → GroundAction → List Atoms → List Link → Option (ℕ × ℕ)
      → Type 0
  GrowsByStep before earlier from source step states links (Some found) =
      IsAdded before earlier from source step states links found.0 found.1
  GrowsByStep before earlier from source step states links None = IsKept before earlier source step states links

  -- The states are there still, others behind them, and the step leads to one of them all.
  pub record LeadsToState (before : List Atoms) (source : Atoms) (step : GroundAction)
      (states : List Atoms) : Type 0 where
    pub more : List Atoms
    pub states_are : states ≡ before ++ more
    pub after : Atoms
    pub cost : ℕ
    pub leads : IsStep task known source step after cost
    pub there : Contains states after

  -- A state was added to explored ones, by a step from the one at `from`.
  pub record IsGrown (seeks : Bool) (limit : ℕ) (states : List Atoms) (links : List Link) (from id : ℕ) : Type 0 where
    pub before : List Atoms
    pub earlier : List Link
    pub source : Atoms
    pub after : Atoms
    pub link : Link
    pub explored : IsExplored seeks limit before earlier from
    pub here : slice_get before from ≡ Some source
    pub parent : link.parent ≡ from
    pub step : IsStep task known source link.step after link.cost
    pub small : link.cost ≤ 262144000000
    pub fresh : ¬ (Contains before after)
    pub states_are : states ≡ before ++ after ∷ []
    pub links_are : links ≡ earlier ++ link ∷ []
    pub place : slice_get states id ≡ Some after

  -- The last state is the only one that meets the goal, which is sought.
  pub record IsMet (seeks : Bool) (limit : ℕ) (states : List Atoms) (links : List Link) : Type 0 where
    pub sought : seeks ≡ true
    pub tree : IsTree states links
    pub few : length links ≤ limit
    pub goal : (s : Atoms) → slice_get states (length links) ≡ Some s → IsGoal task known s
    pub others : (n : ℕ) (s : Atoms) → n < length links → slice_get states n ≡ Some s
        → ¬ (IsGoal task known s)

  -- More states are reached than the limit allows, and, where the goal is sought, so many also within the steps of any
  -- plan.
  pub record IsBeyond (seeks : Bool) (limit : ℕ) : Type 0 where
    pub reached : MoreThan limit (IsReached task known)
    pub far : seeks ≡ true → IsFar task known limit

  -- what holds after a turn
  abbrev pub Comes : Bool → ℕ → List Atoms → List Link → ℕ → Turn → Type 0
  Comes seeks limit states links done On = IsExplored seeks limit states links done
  Comes seeks limit states links done Goal = IsMet seeks limit states links
  Comes seeks limit states links done More = IsBeyond seeks limit
