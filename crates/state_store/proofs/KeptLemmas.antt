-- What a store keeps when a row is put into its rows.
use Rattle.std.proofs.Common.{◌≡◌, ℕ, ◌<◌, ◌↔◌, Bool, true, cond, not, List, [], ◌∷◌, ◌++◌, map, length, get_or, refl, sym, ap, ◌∙◌, subst, Some, slice_get, option_map, Contains, IsTrue, nat_eq, if◌then◌else◌}
use Rattle.std.proofs.lemmas.Option.{slice_get-map, get_or_from_slice_get}
use Rattle.std.specs.Cmp.Lexicographic.{pointwise}
use Rattle.std.specs.List.{list_any}
use Rattle.lemmas.specs.Lists.{AreDistinct}
use Rattle.task_model.specs.State.{Atoms, empty, without_atoms, with_atoms}
use Rattle.task_model.specs.declared.fact.Atom.{Atom}
use Rattle.state_store.specs.Changed.{state_after}
use Rattle.state_store.specs.Rows.{state_of, states_of, IsRow, AreRows, AddsAtoms}
use Rattle.state_store.proofs.RowsLemmas.{rows_grown, states_of-grown, rows_with, states_with, new_only, keys_with, found_in, state_at, row_at}

-- the row of a state was put into a set of rows, after atoms were put behind the others
pub record IsPutIn {V : Type 0} (row_in : V → List ℕ) (before atoms : List Atom) (old new : List V) (key : V)
    (place : ℕ) (fresh : Bool) (states : List Atoms) (state : Atoms) : Type 0 where
  pub view : states_of before (map row_in old) ≡ states
  pub are : AreRows before (map row_in old)
  pub grows : AddsAtoms before atoms
  pub distinct : AreDistinct atoms
  pub is : IsRow atoms (row_in key)
  pub of : state_of atoms (row_in key) ≡ state
  pub few : length states < 200001
  pub keys : new ≡ cond (list_any (λ k. pointwise nat_eq (row_in key) (row_in k)) old) old (old ++ key ∷ [])
  pub added : fresh ≡ not (list_any (λ k. pointwise nat_eq (row_in key) (row_in k)) old)
  pub stored : (k : V) × (slice_get new place ≡ Some k) × (pointwise nat_eq (row_in key) (row_in k) ≡ true)

module _ {V : Type 0} (row_in : V → List ℕ) (before atoms : List Atom) (rows : List V) (states : List Atoms)
    (view : states_of before (map row_in rows) ≡ states) (are : AreRows before (map row_in rows)) (grows : AddsAtoms before atoms)
    (distinct : AreDistinct atoms) where
  pub grown_rows : AreRows atoms (map row_in rows)
  grown_rows = rows_grown before atoms (map row_in rows) grows distinct are

  pub grown_view : states_of atoms (map row_in rows) ≡ states
  grown_view = states_of-grown before atoms (map row_in rows) grows are ∙ view

module _ {V : Type 0} (row_in : V → List ℕ) (before atoms : List Atom) (old new : List V) (key : V) (place : ℕ)
    (fresh : Bool) (states : List Atoms) (state : Atoms) (put : IsPutIn row_in before atoms old new key place fresh states state) where
  abbrev found : Bool
  found = list_any (pointwise nat_eq (row_in key)) (map row_in old)

  are : AreRows atoms (map row_in old)
  are = grown_rows row_in before atoms old states put.view put.are put.grows put.distinct

  same : states_of atoms (map row_in old) ≡ states
  same = grown_view row_in before atoms old states put.view put.are put.grows put.distinct

  few : length (states_of atoms (map row_in old)) < 200001
  few = subst (λ ss. length ss < 200001) (sym same) put.few

  grown : map row_in new ≡ cond found (map row_in old) (map row_in old ++ row_in key ∷ [])
  grown = keys_with row_in old new key put.keys

  is_fresh : fresh ≡ not found
  is_fresh = put.added ∙ ap not (found_in row_in old key)

  pub put_rows : AreRows atoms (map row_in new)
  put_rows = subst (AreRows atoms) (sym grown) (rows_with atoms (map row_in old) are (row_in key) put.is found refl few)

  pub put_place : slice_get (states_of atoms (map row_in new)) place ≡ Some state
  put_place = state_at row_in atoms new key place put.stored ∙ ap Some put.of

  pub put_fresh : IsTrue fresh ↔ ¬ (Contains states state)
  put_fresh =
      subst (λ b. IsTrue b ↔ ¬ (Contains states state)) (sym is_fresh)
      (subst (λ s. IsTrue (not found) ↔ ¬ (Contains states s)) put.of
      (subst (λ ss. IsTrue (not found) ↔ ¬ (Contains ss (state_of atoms (row_in key)))) same
      (new_only atoms (map row_in old) are (row_in key) put.is found refl)))

  pub put_states : states_of atoms (map row_in new) ≡ (if fresh then states ++ state ∷ [] else states)
  put_states =
      ap (states_of atoms) grown ∙ states_with atoms (map row_in old) are (row_in key) put.is found
      ∙ (λ i. cond (sym is_fresh i) (same i ++ put.of i ∷ []) (same i))

-- ---- the state that is changed

-- the row at a place is that of the state there
module _ {V : Type 0} (row_in : V → List ℕ) (atoms : List Atom) (keys : List V) (key : V) (place : ℕ)
    (states : List Atoms) (view : states_of atoms (map row_in keys) ≡ states) (within : place < length states)
    (at : key ≡ get_or keys place key) where
  row_there : slice_get (map row_in keys) place ≡ Some (row_in key)
  row_there = row_at row_in atoms keys key place (subst (λ ss. place < length ss) (sym view) within) at

  pub is_row : AreRows atoms (map row_in keys) → IsRow atoms (row_in key)
  is_row are = are.each place (row_in key) row_there

  pub is_state : get_or states place empty ≡ state_of atoms (row_in key)
  is_state =
      get_or_from_slice_get states place (state_of atoms (row_in key)) empty
      (ap (λ ss. slice_get ss place) (sym view) ∙ slice_get-map (state_of atoms) (map row_in keys) place
      ∙ ap (option_map (state_of atoms)) row_there)

pub after_is : (atoms listed : List Atom) (there row taken : List ℕ) (states : List Atoms) (from : ℕ)
    (gone come : List Atom) (final : Atoms) → listed ≡ atoms → row ≡ there
    → get_or states from empty ≡ state_of atoms there
    → state_of listed taken ≡ without_atoms (state_of listed row) gone
    → final ≡ with_atoms (state_of atoms taken) come → final ≡ state_after states from gone come
after_is atoms listed there row taken states from gone come final e f here took is =
    let out : state_of atoms taken ≡ without_atoms (get_or states from empty) gone =
    ap (λ a. state_of a taken) (sym e) ∙ took ∙ (λ i. without_atoms (state_of (e i) (f i)) gone)
    ∙ ap (λ s. without_atoms s gone) (sym here) in
    is ∙ ap (λ s. with_atoms s come) out
