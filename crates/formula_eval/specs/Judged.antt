-- Truth over a task, what is known and a state, where derived atoms rest on derived atoms so many deep.
use Rattle.std.specs.Prelude.{ℕ, List, Bool}
use Rattle.std.specs.List.{list_any}
use Rattle.std.specs.Prelude.{◌&&◌, ◌==◌}
use Rattle.task_model.specs.Condition.{Condition, Conditions}
use Rattle.task_model.specs.Known.{Known, objects_of}
use Rattle.task_model.specs.State.{Atoms}
use Rattle.task_model.specs.Truth.{truth, all_true, any_true, some_tuple, atom_at, have_types, slots_of}
use Rattle.task_model.specs.declared.domain.Derived.{Derived}
use Rattle.task_model.specs.declared.domain.Domain.{Domain}

module _ (domain : Domain) (known : Known) (state : Atoms) (depth : ℕ) where
  abbrev pub truth_at : Condition → List ℕ → Bool
  truth_at condition slots =
      truth (atom_at domain known state depth) (objects_of known.facts) condition slots

  abbrev pub all_at : Conditions → List ℕ → Bool
  all_at parts slots =
      all_true (atom_at domain known state depth) (objects_of known.facts) parts slots

  abbrev pub any_at : Conditions → List ℕ → Bool
  any_at parts slots =
      any_true (atom_at domain known state depth) (objects_of known.facts) parts slots

  -- some objects of these types, put into the slots from `first` on, make the body true
  abbrev pub some_at : ℕ → List ℕ → Condition → List ℕ → Bool
  some_at first sorts body slots =
      some_tuple (objects_of known.facts) (truth_at body) first sorts slots

  -- an item heads the predicate, the arguments have its parameters' types, and its body is true of them
  abbrev pub is_item_true : ℕ → List ℕ → Derived → Bool
  is_item_true pred args d =
      (d.pred == pred) && have_types known args d.params && truth_at d.body (slots_of args)

  abbrev pub derived_at : ℕ → List ℕ → Bool
  derived_at pred args = list_any (is_item_true pred args) domain.derived
