-- Which tuples answer a query.
use Rattle.std.specs.Prelude.{◌≡◌, ℕ, ◌≤◌, List, length, Bool, true, ◌&&◌, nat_le, nat_lt}
use Rattle.std.specs.List.{list_all}
use Rattle.task_model.specs.Known.{Known, is_fact, atom_fact}
use Rattle.task_model.specs.Truth.{slots_of, objects_at, have_types}
use Rattle.task_model.specs.declared.condition.Term.{Term}
use Rattle.task_model.specs.declared.condition.Term.TheVariants.{Slot, Object}
use Rattle.task_model.specs.declared.domain.Pattern.{Pattern}
use Rattle.task_model.specs.declared.fact.Fact.{Fact}
use Rattle.task_model.specs.declared.limits.TheConstants.{SLOTS}
use Rattle.fact_join.specs.Adding.{Adds, ComesOf}
use Rattle.fact_join.specs.Partials.{Agrees}
use Rattle.fact_join.specs.declared.partial.Partial.{Partial}
use Rattle.fact_join.specs.declared.query.JoinFault.{JoinFault}
use Rattle.fact_join.specs.declared.query.QueryAtom.{QueryAtom}

-- a slot is a place of the tuple, which has so many objects
abbrev pub is_term_of : ℕ → Term → Bool
is_term_of width (Slot n) = nat_lt n width
is_term_of width (Object o) = true

-- at most eight terms, whose slots are places of the tuple
abbrev pub is_atom_over : ℕ → QueryAtom → Bool
is_atom_over width atom =
    nat_le (length atom.terms.now) 8 && list_all (is_term_of width) atom.terms.now

-- the same of an atom whose terms are listed
abbrev pub is_pattern_of : ℕ → Pattern → Bool
is_pattern_of width p = nat_le (length p.args) 8 && list_all (is_term_of width) p.args

-- the atom is known where the slots have these objects
abbrev pub is_known : Known → List ℕ → QueryAtom → Bool
is_known known slots atom = is_fact known.facts (atom_fact atom.pred (objects_at slots atom.terms.now))

-- The tuple agrees with the partial one, its objects have the types, the atoms are known facts, and it is wanted.
pub record IsAnswer (known : Known) (sorts : List ℕ) (wants : List ℕ → Bool) (partial : Partial)
    (atoms : List QueryAtom) (tuple : List ℕ) : Type 0 where
  pub agrees : Agrees partial (slots_of tuple)
  pub types : have_types known tuple sorts ≡ true
  pub known_atoms : list_all (is_known known (slots_of tuple)) atoms ≡ true
  pub wanted : wants tuple ≡ true

-- No more types than slots; the slots of the atoms are places of the tuple; each tuple as long can be judged.
pub record IsAskable (sorts : List ℕ) (can_judge : List ℕ → Type 0) (atoms : List QueryAtom) : Type 0 where
  pub narrow : length sorts ≤ SLOTS
  pub slots : list_all (is_atom_over (length sorts)) atoms ≡ true
  pub judged : (tuple : List ℕ) → length tuple ≡ length sorts → can_judge tuple

-- the answers stand behind the old rows, each once
abbrev pub AddsAnswers : Known → List ℕ → (List ℕ → Bool) → Partial → List QueryAtom → List (List ℕ)
    → List (List ℕ) → Type 0
AddsAnswers known sorts wants partial atoms old new =
    Adds (IsAnswer known sorts wants partial atoms) old new

-- what is true where not all answers were added
abbrev pub LacksAnswers : ℕ → Known → List ℕ → (List ℕ → Bool) → Partial → List QueryAtom → List (List ℕ)
    → JoinFault → Type 0
LacksAnswers most known sorts wants partial atoms old fault =
    ComesOf most (IsAnswer known sorts wants partial atoms) old fault

-- The atom is this fact, and the tuple answers the others.
abbrev pub IsAnswerBy : Known → List ℕ → (List ℕ → Bool) → Partial → List Term → List QueryAtom → Fact → List ℕ → Type 0
IsAnswerBy known sorts wants partial terms atoms fact tuple =
    (objects_at (slots_of tuple) terms ≡ fact.args) × IsAnswer known sorts wants partial atoms tuple
