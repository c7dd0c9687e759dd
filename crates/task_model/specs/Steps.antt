-- What one action does and costs (PDDL 2.1, and IPC 2008 for costs).
use Rattle.std.specs.Prelude.{◌≡◌, ℕ, ◌+◌, List, [], ◌∷◌, map, true, Option, None, Some, slice_get, if◌then◌else◌}
use Rattle.task_model.specs.Known.{Known, value_of}
use Rattle.task_model.specs.State.{Atoms, without_atoms, with_atoms}
use Rattle.task_model.specs.Truth.{slots_of, objects_at, have_types, is_true}
use Rattle.task_model.specs.declared.domain.Action.{Action}
use Rattle.task_model.specs.declared.domain.CostTerm.{CostTerm}
use Rattle.task_model.specs.declared.domain.CostTerm.TheVariants.{Number, Value}
use Rattle.task_model.specs.declared.domain.Pattern.{Pattern}
use Rattle.task_model.specs.declared.fact.Atom.{Atom}
use Rattle.task_model.specs.declared.task.GroundAction.{GroundAction}
use Rattle.task_model.specs.declared.task.Task.{Task}

-- ---- what it does

-- the pattern's atom where the slots have these objects
abbrev pub atom_of : List ℕ → Pattern → Atom
atom_of slots pattern = record { pred = pattern.pred; args = objects_at slots pattern.args }

-- The state without the deletes and then with the adds: what is both deleted and added is there.
abbrev pub effect_of : Action → List ℕ → Atoms → Atoms
effect_of action args state =
    with_atoms (without_atoms state (map (atom_of (slots_of args)) action.deletes))
    (map (atom_of (slots_of args)) action.adds)

-- ---- what it costs

-- a number, or the value of a function at these objects, where it has one
abbrev pub term_cost : Known → List ℕ → CostTerm → Option ℕ
term_cost known slots (Number n) = Some n
term_cost known slots (Value func terms) = value_of known.values func (objects_at slots terms)

-- the sum, where both have a value
abbrev pub sum_of : Option ℕ → Option ℕ → Option ℕ
sum_of (Some m) (Some n) = Some (m + n)
sum_of None n = None
sum_of (Some m) None = None

-- the sum of the terms, where all have a value
abbrev pub terms_cost : Known → List ℕ → List CostTerm → Option ℕ
terms_cost known slots [] = Some 0
terms_cost known slots (term ∷ terms) =
    sum_of (term_cost known slots term) (terms_cost known slots terms)

-- the sum of its terms where the total cost is counted, and 1 where it isn't
abbrev pub cost_of : Task → Known → Action → List ℕ → Option ℕ
cost_of task known action args =
    if task.problem.metric then terms_cost known (slots_of args) action.costs else Some 1

-- ---- the step

-- The action is applicable in `before`, where its arguments fit, its condition is true and its cost has
-- a value; it costs `cost` and leads to `after`.
pub record IsStep (task : Task) (known : Known) (before : Atoms) (step : GroundAction) (after : Atoms)
    (cost : ℕ) : Type 0 where
  pub action : Action
  pub named : slice_get task.domain.actions step.action ≡ Some action
  pub typed : have_types known step.args action.params ≡ true
  pub condition : is_true task.domain known before action.condition (slots_of step.args) ≡ true
  pub costs : cost_of task known action step.args ≡ Some cost
  pub leads : after ≡ effect_of action step.args before
