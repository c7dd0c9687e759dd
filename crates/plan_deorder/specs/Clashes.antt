-- What steps write and read, as sets, and which pairs and stages follow.
use Rattle.std.specs.Prelude.{◌≡◌, ◌↔◌, ℕ, zero, suc, ◌+◌, ◌-◌, ◌≤◌, Bool, true, false, ◌||◌, List, [], ◌∷◌, ◌++◌, map, filter, length, Option, None, Some, slice_get, slice_index_or}
use Rattle.std.specs.List.{list_any}
use Rattle.lemmas.specs.Lists.{has_number, numbers_from}
use Rattle.task_model.specs.State.{contains, from_list, items}
use Rattle.task_model.specs.Truth.{slots_of}
use Rattle.task_model.specs.declared.domain.Action.{Action}
use Rattle.task_model.specs.declared.fact.Atom.{Atom}
use Rattle.task_model.specs.declared.task.GroundAction.{GroundAction}
use Rattle.task_model.specs.declared.task.Task.{Task}
use Rattle.plan_deorder.specs.Orders.{Pair, greatest}
use Rattle.plan_deorder.specs.Touches.{ReadsAll, adds_of, deletes_of, reads_in}
use Rattle.plan_deorder.specs.declared.touched.Touched.{Touched}
use Rattle.task_model.specs.declared.limits.TheConstants.{SLOTS}

-- ---- steps

-- The step names an action, and has no more arguments than an action may.
pub record IsNamedStep (task : Task) (step : GroundAction) : Type 0 where
  pub action : Action
  pub named : slice_get task.domain.actions step.action ≡ Some action
  pub few : length step.args ≤ SLOTS

-- each does
abbrev pub AreStepsNamed : Task → List GroundAction → Type 0
AreStepsNamed task steps = (k : ℕ) (step : GroundAction) → slice_get steps k ≡ Some step → IsNamedStep task step

-- The sets have what the step writes and reads.
pub record IsTouchedBy (task : Task) (step : GroundAction) (touched : Touched) : Type 0 where
  pub action : Action
  pub named : slice_get task.domain.actions step.action ≡ Some action
  pub adds : touched.adds ≡ from_list (adds_of action step.args)
  pub deletes : touched.deletes ≡ from_list (deletes_of action step.args)
  pub reads : touched.reads ≡ from_list (reads_in task.domain (slots_of step.args) action.condition)
  pub whole : (p : ℕ) → (has_number touched.whole p ≡ true) ↔ ReadsAll task.domain action.condition p

-- Of each step there is what it writes and reads.
pub record AreTouched (task : Task) (steps : List GroundAction) (touched : List Touched) : Type 0 where
  pub long : length touched ≡ length steps
  pub each : (k : ℕ) (step : GroundAction) (t : Touched) → slice_get steps k ≡ Some step
      → slice_get touched k ≡ Some t → IsTouchedBy task step t

-- ---- conflicts, by the sets

abbrev pub is_read : Touched → Atom → Bool
is_read touched x = contains touched.reads x || has_number touched.whole x.pred

-- the one adds what the other deletes
abbrev pub adds_deleted : Touched → Touched → Bool
adds_deleted a b = list_any (contains b.deletes) (items a.adds)

-- the first writes what the second reads
abbrev pub disturbs : Touched → Touched → Bool
disturbs a b = list_any (is_read b) (items a.adds) || list_any (is_read b) (items a.deletes)

abbrev pub clash : Touched → Touched → Bool
clash a b = (adds_deleted a b || adds_deleted b a) || (disturbs a b || disturbs b a)

abbrev pub clash_of : Option Touched → Option Touched → Bool
clash_of (Some a) (Some b) = clash a b
clash_of (Some a) None = false
clash_of None b = false

-- the steps at these places
abbrev pub clash_at : List Touched → ℕ → ℕ → Bool
clash_at touched i j = clash_of (slice_get touched i) (slice_get touched j)

-- ---- pairs

abbrev pub pair_of : ℕ → ℕ → Pair
pair_of i j = (i + 1, j + 1)

-- the pairs of the step at this place with later ones
abbrev pub pairs_from : List Touched → ℕ → List Pair
pairs_from touched i =
    map (pair_of i) (filter (clash_at touched i) (numbers_from (i + 1) (length touched - (i + 1))))

-- ---- stages

-- the stages of the steps before this place that conflict with the step there
abbrev pub stages_under : List Touched → List ℕ → ℕ → List ℕ
stages_under touched stages j =
    map (λ i. slice_index_or stages i 0) (filter (λ i. clash_at touched i j) (numbers_from 0 j))

abbrev pub stage_of : List Touched → List ℕ → ℕ → ℕ
stage_of touched stages j = greatest (stages_under touched stages j) + 1

-- the stages of the first so many steps
abbrev pub stages_of : List Touched → ℕ → List ℕ
stages_of touched zero = []
stages_of touched (suc n) = stages_of touched n ++ stage_of touched (stages_of touched n) n ∷ []
