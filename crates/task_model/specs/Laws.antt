-- Laws of the definitions. Each is the contract of a public function of `laws.rt`, and so is proved.
use Rattle.std.specs.Prelude.{◌≡◌, ℕ, ◌+◌, ◌≤◌, ◌↔◌, List, ◌++◌, map, length, Bool, true, false, not, ◌&&◌, ◌||◌, slice_index, Contains}
use Rattle.std.specs.List.{list_any}
use Rattle.std.specs.Ordering.{eq_by_cmp}
use Rattle.task_model.specs.AtomOrder.{atom_cmp}
use Rattle.task_model.specs.Condition.{Condition, Conditions, Atom, Equal, All as every, Any, Not, Exists, none, more}
use Rattle.task_model.specs.Initial.{initial_state}
use Rattle.task_model.specs.Known.{Known, is_fact, with_facts}
use Rattle.lemmas.specs.Lists.{AreDistinct}
use Rattle.task_model.specs.Plans.{Executes, IsReached, IsReachedWithin, MoreThan}
use Rattle.task_model.specs.State.{Atoms, contains}
use Rattle.task_model.specs.Steps.{atom_of, effect_of}
use Rattle.task_model.specs.Truth.{truth, slots_of, is_slot}
use Rattle.task_model.specs.declared.domain.Action.{Action}
use Rattle.task_model.specs.declared.fact.Atom as atoms
use Rattle.task_model.specs.declared.fact.Fact.{Fact}
use Rattle.task_model.specs.declared.task.GroundAction.{GroundAction}
use Rattle.task_model.specs.declared.task.Task.{Task}

-- ---- slots

-- the slot stands in one of the condition's terms
abbrev mutual
  pub touches : Condition → ℕ → Bool
  touches (Atom pred args) n = list_any (is_slot n) args
  touches (Equal s t) n = is_slot n s || is_slot n t
  touches (every parts) n = any_touches parts n
  touches (Any parts) n = any_touches parts n
  touches (Not part) n = touches part n
  touches (Exists first sorts body) n = touches body n

  pub any_touches : Conditions → ℕ → Bool
  any_touches none n = false
  any_touches (more part parts) n = touches part n || any_touches parts n

-- Truth depends only on the slots that stand in the condition's terms.
abbrev pub TruthIgnoresOtherSlots : Type 0
TruthIgnoresOtherSlots =
    (atom : ℕ → List ℕ → Bool) (objects : ℕ → List ℕ) (condition : Condition) (slots others : List ℕ)
    → length slots ≡ length others
    → ((n : ℕ) → touches condition n ≡ true → slice_index slots n ≡ slice_index others n)
    → truth atom objects condition slots ≡ truth atom objects condition others

-- ---- steps and plans

-- An atom is there after an action exactly where it is added, or was there and isn't deleted.
abbrev pub EffectsAreExact : Type 0
EffectsAreExact =
    (action : Action) (args : List ℕ) (state : Atoms) (q : atoms.Atom)
    → contains (effect_of action args state) q
    ≡ (list_any (eq_by_cmp atom_cmp q) (map (atom_of (slots_of args)) action.adds)
    || (not (list_any (eq_by_cmp atom_cmp q) (map (atom_of (slots_of args)) action.deletes))
    && contains state q))

-- the steps, executed in two parts
abbrev pub ExecutesInParts : Task → Known → Atoms → List GroundAction → List GroundAction → Atoms
    → ℕ → Type 0
ExecutesInParts task known before first second after total =
    (middle : Atoms) × (cost : ℕ) × (rest : ℕ) × Executes task known before first middle cost
    × Executes task known middle second after rest × (total ≡ cost + rest)

-- To execute a list of steps is to execute its front and then the rest.
abbrev pub PartsMakeTheWhole : Type 0
PartsMakeTheWhole =
    (task : Task) (known : Known) (before after : Atoms) (first second : List GroundAction) (total : ℕ)
    → Executes task known before (first ++ second) after total
    ↔ ExecutesInParts task known before first second after total

-- The state to which a list of steps leads, and its cost, are determined.
abbrev pub ExecutionIsDetermined : Type 0
ExecutionIsDetermined =
    (task : Task) (known : Known) (before : Atoms) (steps : List GroundAction) (a b : Atoms) (m n : ℕ)
    → Executes task known before steps a m → Executes task known before steps b n → (a ≡ b) × (m ≡ n)

-- No steps reach the initial state.
abbrev pub InitialStateIsReached : Type 0
InitialStateIsReached =
    (task : Task) (known : Known) → IsReachedWithin task known 0 (initial_state task)

-- Where more than some number of states are reached, more than any smaller number are, within a number of steps too.
pub record MoreThanFewer (task : Task) (known : Known) (fewer most : ℕ) : Type 0 where
  pub reached : MoreThan most (IsReached task known) → MoreThan fewer (IsReached task known)
  pub within : (steps : ℕ) → MoreThan most (IsReachedWithin task known steps)
      → MoreThan fewer (IsReachedWithin task known steps)

-- Where more than some number of states are reached, more than any smaller number are.
abbrev pub MoreIsMoreThanFewer : Type 0
MoreIsMoreThanFewer =
    (task : Task) (known : Known) (fewer most : ℕ) → fewer ≤ most → MoreThanFewer task known fewer most

-- ---- facts

-- Whether a fact is in a list is decided.
abbrev pub FactsAreDecided : Type 0
FactsAreDecided =
    (facts : List Fact) (fact : Fact) → (is_fact facts fact ≡ true) ↔ Contains facts fact

-- Facts put behind others leave all distinct, and nothing else is there.
pub record AddsFacts (facts more after : List Fact) : Type 0 where
  pub members : (fact : Fact) → Contains after fact ↔ Contains (facts ++ more) fact
  pub distinct : AreDistinct facts → AreDistinct after

-- Facts that are put behind others, each once, stay distinct, and nothing else is there.
abbrev pub FactsStayDistinct : Type 0
FactsStayDistinct = (facts more : List Fact) → AddsFacts facts more (with_facts facts more)
