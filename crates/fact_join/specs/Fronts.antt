-- What the fixed slots of a partial tuple say of atoms.
use Rattle.std.specs.Prelude.{◌≡◌, ℕ, List, take, drop, true, Some, None, slice_get, Contains}
use Rattle.std.specs.List.{list_all}
use Rattle.task_model.specs.Known.{Known}
use Rattle.task_model.specs.declared.condition.Term.TheVariants.{Slot}
use Rattle.fact_join.specs.Answers.{is_known}
use Rattle.fact_join.specs.Partials.{Agrees}
use Rattle.fact_join.specs.declared.front.Front.{Front}
use Rattle.fact_join.specs.declared.front.Front.TheVariants as front
use Rattle.fact_join.specs.declared.partial.Partial.{Partial}
use Rattle.fact_join.specs.declared.query.QueryAtom.{QueryAtom}

-- the atoms are known in each tuple that agrees
abbrev pub AreKnown : Known → Partial → List QueryAtom → Type 0
AreKnown known partial atoms =
    (slots : List ℕ) → Agrees partial slots → list_all (is_known known slots) atoms ≡ true

-- All atoms are known where the last ones, which are left, are, and one of them has the slot, which is free.
pub record AreLeft (known : Known) (partial : Partial) (atoms : List QueryAtom) (slot : ℕ)
    (left : List QueryAtom) : Type 0 where
  pub before : ℕ
  pub rest : left ≡ drop before atoms
  pub settled : AreKnown known partial (take before atoms)
  pub atom : QueryAtom
  pub there : Contains atoms atom
  pub term : Contains atom.terms.now (Slot slot)
  pub free : slice_get partial.slots slot ≡ Some None

-- all atoms are known in each tuple that agrees, or not all in any, or these are left
abbrev pub IsFront : Known → Partial → List QueryAtom → Front → Type 0
IsFront known partial atoms front.Known = AreKnown known partial atoms
IsFront known partial atoms front.Unknown =
    (slots : List ℕ) → Agrees partial slots → ¬ (list_all (is_known known slots) atoms ≡ true)
IsFront known partial atoms (front.Free slot left) = AreLeft known partial atoms slot left.now
