-- What no step leads out of.
use Rattle.std.specs.Prelude.{◌≡◌, ℕ, List, true, Some}
use Rattle.task_model.specs.Condition.{Condition}
use Rattle.task_model.specs.Initial.{initial_state}
use Rattle.task_model.specs.Known.{Known}
use Rattle.task_model.specs.State.{Atoms, contains}
use Rattle.task_model.specs.Steps.{IsStep, cost_of, effect_of}
use Rattle.task_model.specs.Truth.{slots_of, have_types, is_true}
use Rattle.task_model.specs.declared.domain.Action.{Action}
use Rattle.task_model.specs.declared.domain.Domain.{Domain}
use Rattle.task_model.specs.declared.fact.Atom.{Atom}
use Rattle.task_model.specs.declared.task.GroundAction.{GroundAction}
use Rattle.task_model.specs.declared.task.Task.{Task}

-- each atom of the state is among these
abbrev pub IsWithin : Atoms → Atoms → Type 0
IsWithin state atoms = (atom : Atom) → contains state atom ≡ true → contains atoms atom ≡ true

-- with these objects the condition is true in no state within the atoms
abbrev pub IsMissed : Domain → Known → Atoms → Condition → List ℕ → Type 0
IsMissed domain known atoms condition args =
    (state : Atoms) → IsWithin state atoms → ¬ (is_true domain known state condition (slots_of args) ≡ true)

-- with these objects the action leads from no state within the atoms out of them
abbrev pub StaysWithin : Task → Known → Atoms → Action → List ℕ → Type 0
StaysWithin task known atoms action args =
    (before : Atoms) (cost : ℕ) → IsWithin before atoms → cost_of task known action args ≡ Some cost
    → is_true task.domain known before action.condition (slots_of args) ≡ true
    → IsWithin (effect_of action args before) atoms

-- the same with all objects that have the types
abbrev pub LeadsWithin : Task → Known → Atoms → Action → Type 0
LeadsWithin task known atoms action =
    (args : List ℕ) → have_types known args action.params ≡ true → StaysWithin task known atoms action args

-- The initial state is within the atoms, and so is each state to which a step from such a one leads.
pub record IsClosed (task : Task) (known : Known) (atoms : Atoms) : Type 0 where
  pub start : IsWithin (initial_state task) atoms
  pub steps : (before after : Atoms) (step : GroundAction) (cost : ℕ) → IsWithin before atoms
      → IsStep task known before step after cost → IsWithin after atoms
