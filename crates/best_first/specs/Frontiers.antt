-- What holds while states are explored, best first.
use Rattle.std.specs.Prelude.{◌≡◌, ℕ, ◌<◌, ◌≤◌, ◌⊎◌, List, length, true, Some, slice_get, Contains}
use Rattle.std.specs.declared.cmp.Reverse.{Reverse}
use Rattle.task_model.specs.Known.{Known}
use Rattle.task_model.specs.Plans.{IsGoal}
use Rattle.task_model.specs.State.{Atoms}
use Rattle.task_model.specs.Steps.{IsStep}
use Rattle.task_model.specs.declared.task.GroundAction.{GroundAction}
use Rattle.task_model.specs.declared.task.Task.{Task}
use Rattle.best_first.specs.Explored.{IsAdded, IsMet, IsTree}
use Rattle.best_first.specs.declared.best.Open.{Open}
use Rattle.best_first.specs.declared.expand.Turn.{Turn}
use Rattle.best_first.specs.declared.expand.Turn.TheVariants.{On, Goal, More}
use Rattle.best_first.specs.declared.tree.Link.{Link}

-- the open state, as the heap holds it
abbrev pub in_heap : Open → Reverse Open
in_heap entry = record { 0 = entry }

-- the state at this place is among these
abbrev pub IsOpen : ℕ → List (Reverse Open) → Type 0
IsOpen place queue = (entry : Reverse Open) × Contains queue entry × (entry.0.place ≡ place)

module _ (task : Task) (known : Known) where
  -- all steps from the state lead to states that are there
  abbrev pub IsExpanded : List Atoms → Atoms → Type 0
  IsExpanded states state = (step : GroundAction) (after : Atoms) (cost : ℕ)
      → IsStep task known state step after cost → Contains states after

  -- Each state is open or was expanded, and none meets the goal.
  pub record IsFrontier (limit : ℕ) (states : List Atoms) (links : List Link)
      (queue : List (Reverse Open)) : Type 0 where
    pub tree : IsTree task known states links
    pub few : length states ≤ limit
    pub once : length queue ≤ length states
    pub none_meets : (n : ℕ) (s : Atoms) → slice_get states n ≡ Some s → ¬ (IsGoal task known s)
    pub places : (entry : Reverse Open) → Contains queue entry → entry.0.place < length states
    pub each : (n : ℕ) (s : Atoms) → slice_get states n ≡ Some s → IsOpen n queue ⊎ IsExpanded states s

  -- A state was added behind those of a frontier, at this place and by a step that costs so much, and is not open yet.
  pub record IsWidened (limit : ℕ) (states : List Atoms) (links : List Link) (queue : List (Reverse Open))
      (place cost : ℕ) : Type 0 where
    pub before : List Atoms
    pub earlier : List Link
    pub frontier : IsFrontier limit before earlier queue
    pub from : ℕ
    pub source : Atoms
    pub step : GroundAction
    pub here : slice_get before from ≡ Some source
    pub added : IsAdded task known before earlier from source step states links place cost

  -- what holds after a turn
  abbrev pub Spreads : ℕ → List Atoms → List Link → List (Reverse Open) → Turn → Type 0
  Spreads limit states links queue On = IsFrontier limit states links queue
  Spreads limit states links queue Goal = IsMet task known true limit states links
  Spreads limit states links queue More = Unit {0}
