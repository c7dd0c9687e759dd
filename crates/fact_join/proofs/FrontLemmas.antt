-- Atoms that the fixed slots settle.
use Rattle.std.proofs.Common.{◌≡◌, ℕ, suc, ◌+◌, ◌-◌, ◌<◌, ◌≤◌, Bool, true, false, ◌&&◌, List, [], ◌∷◌, ◌++◌, length, take, drop, refl, sym, ap, ◌∙◌, arith, Some, slice_get, ◌↔◌}
use Rattle.std.proofs.lemmas.Bool.{and_from, both_ways}
use Rattle.std.proofs.lemmas.List.{take-append-drop, length-drop}
use Rattle.std.proofs.lemmas.List.Folds.{list_all-append}
use Rattle.std.specs.Cmp.{second_so}
use Rattle.std.specs.List.{list_all}
use Rattle.lemmas.proofs.ListTests.{all_at, all_append}
use Rattle.lemmas.proofs.Members.{take_next, place_of}
use Rattle.task_model.specs.Known.{Known, is_fact, atom_fact}
use Rattle.task_model.specs.Truth.{slots_of, objects_at}
use Rattle.fact_join.proofs.AnswerLemmas.{slot_below, terms_at}
use Rattle.fact_join.specs.Answers.{IsAnswer, is_known, is_atom_over}
use Rattle.fact_join.specs.Fronts.{AreKnown, AreLeft}
use Rattle.fact_join.specs.Partials.{Agrees}
use Rattle.fact_join.specs.declared.partial.Partial.{Partial}
use Rattle.fact_join.specs.declared.query.QueryAtom.{QueryAtom}

-- ---- one atom more

module _ (known : Known) (partial : Partial) (atoms : List QueryAtom) (place : ℕ) (atom : QueryAtom)
    (at : slice_get atoms place ≡ Some atom) (args : List ℕ)
    (ground : (slots : List ℕ) → Agrees partial slots → objects_at slots atom.terms.now ≡ args) where
  here : (slots : List ℕ) → Agrees partial slots
      → is_known known slots atom ≡ is_fact known.facts (atom_fact atom.pred args)
  here slots agrees = ap (λ xs. is_fact known.facts (atom_fact atom.pred xs)) (ground slots agrees)

  pub known_next : is_fact known.facts (atom_fact atom.pred args) ≡ true → AreKnown known partial (take place atoms)
      → AreKnown known partial (take (place + 1) atoms)
  known_next is before slots agrees =
      let one : list_all (is_known known slots) (atom ∷ []) ≡ true =
      and_from (is_known known slots atom) true (here slots agrees ∙ is) refl in
      let next : place + 1 ≡ suc place = omega arith in
      ap (λ n. list_all (is_known known slots) (take n atoms)) next ∙ ap (list_all (is_known known slots)) (take_next atoms place atom at)
      ∙ all_append (is_known known slots) (take place atoms) (atom ∷ []) (before slots agrees) one

  pub unknown_at : is_fact known.facts (atom_fact atom.pred args) ≡ false → (slots : List ℕ) → Agrees partial slots
      → ¬ (list_all (is_known known slots) atoms ≡ true)
  unknown_at is slots agrees all =
      both_ways (is_known known slots atom) (here slots agrees ∙ is) (all_at (is_known known slots) atoms place atom all at)

-- ---- the last members

all_dropped : {A : Type 0} (p : A → Bool) (n : ℕ) (xs : List A) → list_all p xs ≡ true
    → list_all p (drop n xs) ≡ true
all_dropped p n xs all =
    let parts : (list_all p (take n xs) && list_all p (drop n xs)) ≡ true =
    sym (list_all-append p (take n xs) (drop n xs)) ∙ ap (list_all p) (take-append-drop n xs) ∙ all in
    second_so (list_all p (take n xs)) (list_all p (drop n xs)) parts

-- ---- the atoms that are left

module _ (known : Known) (partial : Partial) where
  pub left_shorter : (atoms : List QueryAtom) (slot : ℕ) (left : List QueryAtom) → AreLeft known partial atoms slot left
      → length left ≤ length atoms
  left_shorter atoms slot left are =
      let whole : length left ≡ length atoms - are.before = ap length are.rest ∙ length-drop are.before atoms in omega (arith, whole)

  pub left_fits : (width : ℕ) (atoms : List QueryAtom) (slot : ℕ) (left : List QueryAtom) → AreLeft known partial atoms slot left
      → list_all (is_atom_over width) atoms ≡ true → list_all (is_atom_over width) left ≡ true
  left_fits width atoms slot left are fit =
      ap (list_all (is_atom_over width)) are.rest ∙ all_dropped (is_atom_over width) are.before atoms fit

  pub slot_left : (width : ℕ) (atoms : List QueryAtom) (slot : ℕ) (left : List QueryAtom) → AreLeft known partial atoms slot left
      → list_all (is_atom_over width) atoms ≡ true → slot < width
  slot_left width atoms slot left are fit =
      let p = place_of atoms are.atom are.there in
      slot_below width are.atom.terms.now slot (terms_at width atoms p.0 are.atom fit p.1) are.term

-- ---- answers

module _ (known : Known) (sorts : List ℕ) (wants : List ℕ → Bool) (partial : Partial) where
  -- where both make the same of the atoms, the answers are the same
  answer_as : (first second : List QueryAtom) (tuple : List ℕ)
      → (Agrees partial (slots_of tuple) → list_all (is_known known (slots_of tuple)) first ≡ true
      → list_all (is_known known (slots_of tuple)) second ≡ true)
      → IsAnswer known sorts wants partial first tuple → IsAnswer known sorts wants partial second tuple
  answer_as first second tuple so a = record {
    agrees = a.agrees;
    types = a.types;
    known_atoms = so a.agrees a.known_atoms;
    wanted = a.wanted;
  }

  pub answer_settled : (atoms : List QueryAtom) → AreKnown known partial atoms → (tuple : List ℕ)
      → IsAnswer known sorts wants partial [] tuple ↔ IsAnswer known sorts wants partial atoms tuple
  answer_settled atoms are tuple = (
    answer_as [] atoms tuple (λ agrees _. are (slots_of tuple) agrees),
    answer_as atoms [] tuple (λ _ _. refl),
  )

  -- the atoms behind known ones
  pub answer_left : (atoms : List QueryAtom) (slot : ℕ) (left : List QueryAtom) → AreLeft known partial atoms slot left
      → (tuple : List ℕ)
      → IsAnswer known sorts wants partial left tuple ↔ IsAnswer known sorts wants partial atoms tuple
  answer_left atoms slot left are tuple = (
    answer_as left atoms tuple (λ agrees rest.
        ap (list_all test) (sym parts) ∙ all_append test front back (are.settled (slots_of tuple) agrees)
        (ap (list_all test) (sym are.rest) ∙ rest)),
    answer_as atoms left tuple (λ agrees all. ap (list_all test) are.rest ∙ all_dropped test are.before atoms all),
  )
    where
      test : QueryAtom → Bool
      test = is_known known (slots_of tuple)

      front : List QueryAtom
      front = take are.before atoms

      back : List QueryAtom
      back = drop are.before atoms

      parts : front ++ back ≡ atoms
      parts = take-append-drop are.before atoms
