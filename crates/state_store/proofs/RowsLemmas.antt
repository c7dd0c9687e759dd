-- Rows stand for the same states while atoms are put behind the others, and no two rows for one.
use Rattle.std.proofs.Common.{◌≡◌, ℕ, zero, suc, ◌<◌, Bool, true, false, cond, List, [], ◌∷◌, ◌++◌, map, drop, length, get_or, length-append, refl, sym, ap, ◌∙◌, subst, arith, Option, Some, None, option_map, slice_get, position, Contains, All, nat_eq, true≢false, not, IsTrue, ◌↔◌, inl, inr}
use Rattle.std.proofs.lemmas.List.{get_or_append_left, length-map, map_push}
use Rattle.std.proofs.lemmas.List.Elements.{All-head, All-tail, All-weaker, All-push}
use Rattle.std.proofs.lemmas.Map.Keys.{IsDistinct-head, IsDistinct-tail}
use Rattle.std.proofs.lemmas.Map.Views.{Contains-from_any, list_any-from_Contains}
use Rattle.std.proofs.lemmas.Option.{slice_get-map, slice_get-get_or, slice_get_within, get_or_from_slice_get, same_Some}
use Rattle.std.specs.Cmp.Lexicographic.{pointwise, lists_equiv}
use Rattle.std.specs.Cmp.{nat_eq_equiv, eq_by_cmp_equiv}
use Rattle.std.specs.FinMap as finite
use Rattle.std.specs.List.{list_any, AllByRecursion, IsDistinct}
use Rattle.task_model.proofs.StateLemmas.{atoms_total, same_atoms, contains-from_list}
use Rattle.std.proofs.lemmas.List.Quantifiers.{position-Some}
use Rattle.task_model.proofs.StateOrderLemmas.{same_atom, same_is, ties}
use Rattle.task_model.proofs.KnownLemmas.{numbers_decided}
use Rattle.lemmas.proofs.Members.{member_at, place_of, distinct_push, push_cases}
use Rattle.lemmas.specs.Lists.{AreDistinct}
use Rattle.task_model.specs.State.{Atoms, from_list, items}
use Rattle.task_model.specs.declared.fact.Atom.{Atom}
use Rattle.state_store.specs.Kept.{AreKept}
use Rattle.state_store.specs.Rows.{no_atom, row_atoms, state_of, states_of, IsRow, AreRows, AddsAtoms}
use Rattle.lemmas.proofs.MappedTests.{any_mapped}

-- a state is the set of the atoms that it lists
pub from_list-items : (s : Atoms) → from_list (items s) ≡ s
from_list-items s = same_atoms (from_list (items s)) s (λ q. contains-from_list (items s) q ∙ sym (finite.contains_key-keys s q))

-- ---- more atoms

module _ (atoms more : List Atom) where
  pub atoms_of-grown : (row : List ℕ) → All (λ n. n < length atoms) row
      → row_atoms (atoms ++ more) row ≡ row_atoms atoms row
  atoms_of-grown [] known = refl
  atoms_of-grown (n ∷ row) known =
      let here : get_or (atoms ++ more) n no_atom ≡ get_or atoms n no_atom =
      get_or_append_left atoms more no_atom n (All-head (λ n. n < length atoms) n row known) in
      λ i. here i ∷ atoms_of-grown row (All-tail (λ n. n < length atoms) n row known) i

  pub known_grown : (row : List ℕ) → All (λ n. n < length atoms) row
      → All (λ n. n < length (atoms ++ more)) row
  known_grown row known =
      All-weaker (λ n. n < length atoms) (λ n. n < length (atoms ++ more)) (λ n h. omega (arith, length-append atoms more)) row known

  row_grown : (row : List ℕ) → IsRow atoms row → IsRow (atoms ++ more) row
  row_grown row is = record {
    known = known_grown row is.known;
    in_order =
        atoms_of-grown row is.known ∙ is.in_order
        ∙ ap (λ xs. items (from_list xs)) (sym (atoms_of-grown row is.known));
  }

  states_of-more : (rows : List (List ℕ))
      → ((k : ℕ) (row : List ℕ) → slice_get rows k ≡ Some row → IsRow atoms row)
      → states_of (atoms ++ more) rows ≡ states_of atoms rows
  states_of-more [] each = refl
  states_of-more (row ∷ rows) each =
      let here : state_of (atoms ++ more) row ≡ state_of atoms row = ap from_list (atoms_of-grown row (each 0 row refl).known) in
      λ i. here i ∷ states_of-more rows (λ k. each (suc k)) i

pub states_of-grown : (old new : List Atom) (rows : List (List ℕ)) → AddsAtoms old new
    → AreRows old rows → states_of new rows ≡ states_of old rows
states_of-grown old new rows grows are =
    ap (λ atoms. states_of atoms rows) grows.1 ∙ states_of-more old grows.0 rows are.each

pub rows_grown : (old new : List Atom) (rows : List (List ℕ)) → AddsAtoms old new → AreDistinct new
    → AreRows old rows → AreRows new rows
rows_grown old new rows grows distinct are = record {
  numbered = distinct;
  each = λ k row at. subst (λ atoms. IsRow atoms row) (sym grows.1) (row_grown old grows.0 row (are.each k row at));
  kept = subst AreKept (sym (states_of-grown old new rows grows are)) are.kept;
}

pub grows_same : (atoms : List Atom) → AddsAtoms atoms atoms
grows_same atoms = ([], sym (append_nil atoms))
  where
    append_nil : (xs : List Atom) → xs ++ [] ≡ xs
    append_nil [] = refl
    append_nil (x ∷ xs) = ap (λ ys. x ∷ ys) (append_nil xs)

pub grows_on : (a b c : List Atom) → AddsAtoms a b → AddsAtoms b c → AddsAtoms a c
grows_on a b c first second = (first.0 ++ second.0, second.1 ∙ ap (λ xs. xs ++ second.0) first.1 ∙ append_assoc a first.0 second.0)
  where
    append_assoc : (xs ys zs : List Atom) → (xs ++ ys) ++ zs ≡ xs ++ (ys ++ zs)
    append_assoc [] ys zs = refl
    append_assoc (x ∷ xs) ys zs = ap (λ ws. x ∷ ws) (append_assoc xs ys zs)

-- ---- distinct atoms

all_at : {A : Type 0} (P : A → Type 0) (xs : List A) (i : ℕ) (x : A) → AllByRecursion P xs
    → slice_get xs i ≡ Some x → P x
all_at P [] i x all e = absurd (cc)
all_at P (y ∷ ys) zero x all e = subst P (same_Some y x e) all.0
all_at P (y ∷ ys) (suc i) x all e = all_at P ys i x all.1 e

apart : (k x : Atom) → same_atom k x ≡ false → Some k ≡ Some x → ⊥
apart k x other e =
    let same : k ≡ x = cc in
    let itself : same_atom k k ≡ true = ties k k ∙ (eq_by_cmp_equiv atoms_total).refl k in
    let none : same_atom k k ≡ false = subst (λ y. same_atom k y ≡ false) (sym same) other in
    true≢false (sym itself ∙ none)

-- the atoms of a set that tells them apart
pub distinct_of : (ks : List Atom) → IsDistinct same_atom ks → AreDistinct ks
distinct_of [] is i j x e f = absurd (cc)
distinct_of (k ∷ ks) is zero zero x e f = refl
distinct_of (k ∷ ks) is zero (suc j) x e f =
    absurd (apart k x (all_at (λ y. same_atom k y ≡ false) ks j x (IsDistinct-head same_atom k ks is) f) e)
distinct_of (k ∷ ks) is (suc i) zero x e f =
    absurd (apart k x (all_at (λ y. same_atom k y ≡ false) ks i x (IsDistinct-head same_atom k ks is) e) f)
distinct_of (k ∷ ks) is (suc i) (suc j) x e f =
    ap suc (distinct_of ks (IsDistinct-tail same_atom k ks is) i j x e f)

-- ---- one row a state

same_numbers : (atoms : List Atom) → AreDistinct atoms → (xs ys : List ℕ)
    → All (λ n. n < length atoms) xs → All (λ n. n < length atoms) ys
    → row_atoms atoms xs ≡ row_atoms atoms ys → xs ≡ ys
same_numbers atoms distinct [] [] kx ky e = refl
same_numbers atoms distinct [] (y ∷ ys) kx ky e = absurd (omega (arith, ap length e))
same_numbers atoms distinct (x ∷ xs) [] kx ky e = absurd (omega (arith, ap length e))
same_numbers atoms distinct (x ∷ xs) (y ∷ ys) kx ky e =
    let at_x = slice_get-get_or atoms x no_atom (All-head (λ n. n < length atoms) x xs kx) in
    let at_y = slice_get-get_or atoms y no_atom (All-head (λ n. n < length atoms) y ys ky) in
    let here : x ≡ y = distinct x y (get_or atoms x no_atom) at_x (at_y ∙ ap Some (sym (ap (λ zs. get_or zs 0 no_atom) e))) in
    let rest : xs ≡ ys =
    same_numbers atoms distinct xs ys (All-tail (λ n. n < length atoms) x xs kx)
    (All-tail (λ n. n < length atoms) y ys ky) (ap (drop 1) e) in
    λ i. here i ∷ rest i

same_row : (atoms : List Atom) → AreDistinct atoms → (r s : List ℕ) → IsRow atoms r → IsRow atoms s
    → state_of atoms r ≡ state_of atoms s → r ≡ s
same_row atoms distinct r s is_r is_s e =
    same_numbers atoms distinct r s is_r.known is_s.known (is_r.in_order ∙ ap items e ∙ sym is_s.in_order)

equal_rows : (xs ys : List ℕ) → pointwise nat_eq xs ys ≡ true → xs ≡ ys
equal_rows xs ys e = (numbers_decided xs ys).0 e

-- the row of a state's atoms
pub row_of : (atoms : List Atom) (row : List ℕ) (state : Atoms) → All (λ n. n < length atoms) row
    → row_atoms atoms row ≡ items state → (state_of atoms row ≡ state) × IsRow atoms row
row_of atoms row state known e =
    let is : state_of atoms row ≡ state = ap from_list e ∙ from_list-items state in
    (is, record { known = known; in_order = e ∙ ap items (sym is) })

module _ (atoms : List Atom) (rows : List (List ℕ)) (are : AreRows atoms rows) (row : List ℕ) (is : IsRow atoms row) where
  pub row_there : list_any (pointwise nat_eq row) rows ≡ true
      → Contains (states_of atoms rows) (state_of atoms row)
  row_there found =
      let at = place_of rows row (Contains-from_any equal_rows row rows found) in
      member_at (states_of atoms rows) at.0 (state_of atoms row)
      (slice_get-map (state_of atoms) rows at.0 ∙ ap (option_map (state_of atoms)) at.1)

  pub row_absent : list_any (pointwise nat_eq row) rows ≡ false
      → ¬ (Contains (states_of atoms rows) (state_of atoms row))
  row_absent none c =
      let at = place_of (states_of atoms rows) (state_of atoms row) c in
      by at.0 (slice_get rows at.0) refl (sym (slice_get-map (state_of atoms) rows at.0) ∙ at.1)
    where
      by : (k : ℕ) (o : Option (List ℕ)) → slice_get rows k ≡ o
          → option_map (state_of atoms) o ≡ Some (state_of atoms row) → ⊥
      by k None e f = absurd (cc)
      by k (Some r) e f =
          let same : r ≡ row = same_row atoms are.numbered r row (are.each k r e) is (cc) in
          let there : list_any (pointwise nat_eq row) rows ≡ true =
          list_any-from_Contains (lists_equiv nat_eq_equiv) row rows (member_at rows k row (e ∙ ap Some same)) in
          absurd (cc)

  -- ---- the row put in: the rows are the same where it was found

  pub rows_with : (found : Bool) → list_any (pointwise nat_eq row) rows ≡ found
      → length (states_of atoms rows) < 200001 → AreRows atoms (cond found rows (rows ++ row ∷ []))
  rows_with true e few = are
  rows_with false e few = record {
    numbered = are.numbered;
    each = λ k r at. elim (push_cases rows row k r at) [ inl h ↦ are.each k r h | inr h ↦ subst (IsRow atoms) (sym h.1) is ];
    kept = subst AreKept (sym (map_push (state_of atoms) rows row)) (record {
      distinct = distinct_push (states_of atoms rows) (state_of atoms row) are.kept.distinct (row_absent e);
      few = omega (arith, length-append (states_of atoms rows) (state_of atoms row ∷ []));
    });
  }

  pub states_with : (found : Bool)
      → states_of atoms (cond found rows (rows ++ row ∷ []))
      ≡ cond (not found) (states_of atoms rows ++ state_of atoms row ∷ []) (states_of atoms rows)
  states_with true = refl
  states_with false = map_push (state_of atoms) rows row

  pub new_only : (found : Bool) → list_any (pointwise nat_eq row) rows ≡ found
      → IsTrue (not found) ↔ ¬ (Contains (states_of atoms rows) (state_of atoms row))
  new_only true e = (λ t. absurd (cc), λ n. absurd (n (row_there e)))
  new_only false e = (λ t. row_absent e, λ n. refl)

-- the rows of a set of keys that may have got one more
pub keys_with : {V : Type 0} (row_in : V → List ℕ) (old new : List V) (key : V)
    → new ≡ cond (list_any (λ k. pointwise nat_eq (row_in key) (row_in k)) old) old (old ++ key ∷ [])
    → map row_in new ≡ cond (list_any (pointwise nat_eq (row_in key)) (map row_in old)) (map row_in old) (map row_in old ++ row_in key ∷ [])
keys_with row_in old new key is =
    ap (map row_in) is ∙ by (list_any (λ k. pointwise nat_eq (row_in key) (row_in k)) old)
    ∙ ap (λ b. cond b (map row_in old) (map row_in old ++ row_in key ∷ [])) (any_mapped row_in (pointwise nat_eq (row_in key)) old)
  where
    by : (b : Bool)
        → map row_in (cond b old (old ++ key ∷ [])) ≡ cond b (map row_in old) (map row_in old ++ row_in key ∷ [])
    by true = refl
    by false = map_push row_in old key

pub found_in : {V : Type 0} (row_in : V → List ℕ) (old : List V) (key : V)
    → list_any (λ k. pointwise nat_eq (row_in key) (row_in k)) old ≡ list_any (pointwise nat_eq (row_in key)) (map row_in old)
found_in row_in old key = any_mapped row_in (pointwise nat_eq (row_in key)) old

-- the state of a key that equals the one that was put in
pub state_at : {V : Type 0} (row_in : V → List ℕ) (atoms : List Atom) (keys : List V) (key : V) (place : ℕ)
    → (k : V) × (slice_get keys place ≡ Some k) × (pointwise nat_eq (row_in key) (row_in k) ≡ true)
    → slice_get (states_of atoms (map row_in keys)) place ≡ Some (state_of atoms (row_in key))
state_at row_in atoms keys key place stored =
    slice_get-map (state_of atoms) (map row_in keys) place
    ∙ ap (option_map (state_of atoms)) (slice_get-map row_in keys place ∙ ap (option_map row_in) stored.1)
    ∙ ap (λ r. Some (state_of atoms r)) (sym (equal_rows (row_in key) (row_in stored.0) stored.2))

-- ---- the row of a list of atoms, one atom after another

pub numbers_more : (old new : List Atom) (row : List ℕ) (n : ℕ) (atom : Atom) → AddsAtoms old new
    → All (λ n. n < length old) row → slice_get new n ≡ Some atom
    → row_atoms new (row ++ n ∷ []) ≡ row_atoms old row ++ atom ∷ []
numbers_more old new row n atom grows known at =
    let same : row_atoms new row ≡ row_atoms old row = ap (λ atoms. row_atoms atoms row) grows.1 ∙ atoms_of-grown old grows.0 row known in
    map_push (λ n. get_or new n no_atom) row n ∙ (λ i. same i ++ get_or_from_slice_get new n atom no_atom at i ∷ [])

pub known_more : (old new : List Atom) (row : List ℕ) (n : ℕ) (atom : Atom) → AddsAtoms old new
    → All (λ n. n < length old) row → slice_get new n ≡ Some atom
    → All (λ n. n < length new) (row ++ n ∷ [])
known_more old new row n atom grows known at =
    All-push (λ n. n < length new) row n
    (subst (λ atoms. All (λ n. n < length atoms) row) (sym grows.1) (known_grown old grows.0 row known))
    (slice_get_within new n atom at)

-- what holds whatever happened holds where it failed
-- the row at a place
pub row_at : {V : Type 0} (row_in : V → List ℕ) (atoms : List Atom) (keys : List V) (key : V) (place : ℕ)
    → place < length (states_of atoms (map row_in keys)) → key ≡ get_or keys place key
    → slice_get (map row_in keys) place ≡ Some (row_in key)
row_at row_in atoms keys key place within is =
    let inside : place < length keys = omega (arith, length-map (map row_in keys) (state_of atoms), length-map keys row_in) in
    slice_get-map row_in keys place ∙ ap (option_map row_in) (slice_get-get_or keys place key inside ∙ ap Some (sym is))

-- an atom that was looked for stands at the place that was found
pub place_is : (atoms : List Atom) (atom : Atom) (place : ℕ) → position (same_atom atom) atoms ≡ Some place
    → slice_get atoms place ≡ Some atom
place_is atoms atom place e =
    let found = position-Some (same_atom atom) atoms place atom e in
    slice_get-get_or atoms place atom found.0
    ∙ ap Some (sym (same_is atom (get_or atoms place atom) found.1))
