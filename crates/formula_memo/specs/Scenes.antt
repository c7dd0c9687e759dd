-- What clauses say of a scene, and of what is left of an `exists`.
use Rattle.std.specs.Prelude.{◌≡◌, ℕ, ◌+◌, ◌≤◌, List, length, Bool, true, slice_set}
use Rattle.task_model.specs.Condition.{Condition, Conditions}
use Rattle.task_model.specs.Truth.{is_true}
use Rattle.task_model.specs.declared.domain.Derived.{Derived}
use Rattle.task_model.specs.declared.domain.Domain.{Domain}
use Rattle.task_model.specs.declared.fact.Atom.{Atom}
use Rattle.task_model.specs.declared.look.Look.{Ghosts}
use Rattle.task_model.specs.declared.limits.TheConstants.{SLOTS}
use Rattle.formula_eval.specs.Judged.{all_at, any_at, some_at, derived_at, is_item_true}
use Rattle.formula_eval.specs.Readable.{is_readable}
use Rattle.formula_memo.specs.Remembered.{StandsFor, truth_of}
use Rattle.formula_memo.specs.Rests.{AllRest}
use Rattle.formula_memo.specs.declared.scene.Scene.{Scene}

-- What is left of an `exists` can be judged: its slots are there, its body can be read, and rests within the depth.
pub record CanSeek (domain : Domain) (depth first count : ℕ) (body : Condition) : Type 0 where
  pub slots : first + count ≤ SLOTS
  pub readable : is_readable domain body ≡ true
  pub rests : AllRest domain depth body

-- the slots are the same but for this one
abbrev pub IsSameBut : ℕ → List ℕ → List ℕ → Type 0
IsSameBut slot old new = (o : ℕ) → slice_set new slot o ≡ slice_set old slot o

module _ {L : Type 0} {look : Ghosts L} (scene : Scene L look) where
  -- what is remembered is true in the scene
  abbrev pub StandsIn : List (Atom × Bool) → Type 0
  StandsIn = StandsFor scene.task.now.domain (look.known scene.look.now) scene.state.now

  -- whether a condition is true in the scene, where the slots have these objects
  abbrev pub is_true_in : Condition → List ℕ → Bool
  is_true_in = is_true scene.task.now.domain (look.known scene.look.now) scene.state.now

  -- whether all of the conditions are, or any of them
  abbrev pub are_true_in : Conditions → List ℕ → Bool
  are_true_in = all_at scene.task.now.domain (look.known scene.look.now) scene.state.now (length scene.task.now.domain.derived)

  abbrev pub is_any_in : Conditions → List ℕ → Bool
  is_any_in = any_at scene.task.now.domain (look.known scene.look.now) scene.state.now (length scene.task.now.domain.derived)

  -- whether a condition is where the slots from `first` on have some objects of these types
  abbrev pub is_some_in : ℕ → List ℕ → Condition → List ℕ → Bool
  is_some_in = some_at scene.task.now.domain (look.known scene.look.now) scene.state.now (length scene.task.now.domain.derived)

  -- whether an atom is true in the scene
  abbrev pub truth_in : Atom → Bool
  truth_in = truth_of scene.task.now.domain (look.known scene.look.now) scene.state.now

  -- whether it follows by some item, or by this one
  abbrev pub is_derived_in : ℕ → List ℕ → Bool
  is_derived_in = derived_at scene.task.now.domain (look.known scene.look.now) scene.state.now (length scene.task.now.domain.derived)

  abbrev pub follows_in : ℕ → List ℕ → Derived → Bool
  follows_in = is_item_true scene.task.now.domain (look.known scene.look.now) scene.state.now (length scene.task.now.domain.derived)
