-- What is remembered of derived atoms.
use Rattle.std.specs.Prelude.{◌≡◌, List, length, Bool, ◌&&◌, ◌==◌, Option, Some}
use Rattle.std.specs.Map.{lookup}
use Rattle.task_model.specs.Known.{Known, same_numbers}
use Rattle.task_model.specs.State.{Atoms}
use Rattle.task_model.specs.Truth.{atom_at}
use Rattle.task_model.specs.declared.domain.Domain.{Domain}
use Rattle.task_model.specs.declared.fact.Atom.{Atom}

-- the atoms are equal
abbrev pub same_atom : Atom → Atom → Bool
same_atom a b = (a.pred == b.pred) && same_numbers a.args b.args

-- what is remembered of the atom
abbrev pub remembered_of : List (Atom × Bool) → Atom → Option Bool
remembered_of entries atom = lookup (same_atom atom) entries

module _ (domain : Domain) (known : Known) (state : Atoms) where
  -- whether the atom is true
  abbrev pub truth_of : Atom → Bool
  truth_of atom = atom_at domain known state (length domain.derived) atom.pred atom.args

  -- What is remembered of each atom is its truth.
  pub record StandsFor (entries : List (Atom × Bool)) : Type 0 where
    pub each : (atom : Atom) (value : Bool) → remembered_of entries atom ≡ Some value
        → value ≡ truth_of atom

-- it is so whatever the task, what is known of it and the state
abbrev pub StandsForAll : List (Atom × Bool) → Type 0
StandsForAll entries =
    (domain : Domain) (known : Known) (state : Atoms) → StandsFor domain known state entries
