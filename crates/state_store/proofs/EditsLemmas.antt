-- Rows with an atom put in or taken out.
use Rattle.std.proofs.Common.{◌≡◌, ℕ, zero, suc, ◌+◌, ◌<◌, ◌≤◌, Bool, true, false, ◌&&◌, T, List, [], ◌∷◌, map, take, drop, length, get_or, refl, sym, ap, ◌∙◌, subst, arith, All, Some, slice_get, option_map}
use Rattle.std.proofs.lemmas.List.{length-map}
use Rattle.std.proofs.lemmas.List.Elements.{All-append, All-take, All-drop}
use Rattle.std.proofs.lemmas.Option.{get_or_from_slice_get, slice_get_within, slice_get-map, slice_get-get_or}
use Rattle.indexmap.proofs.SetLemmas.{map-insert, map-remove}
use Rattle.std.specs.FinMap as finite
use Rattle.std.specs.List.{AllByRecursion, AllWithin, HoldsAt, insert as insert_at, remove as remove_at}
use Rattle.std.specs.List.Sorted.{IsStrictlySortedBy, IsNonDecreasingBy}
use Rattle.std.specs.Ordering.{is_lt, ordering_index}
use Rattle.std.specs.declared.cmp.Ordering.{Ordering}
use Rattle.std.specs.declared.cmp.Ordering.TheVariants.{Less, Equal, Greater}
use Rattle.task_model.proofs.StateLemmas.{items-from_list, contains-from_list}
use Rattle.task_model.proofs.StateOrderLemmas.{Parts, searchable, any_found, any_absent, sorted_with, sorted_without, from_list-insert, from_list-remove, insert-there, remove-absent}
use Rattle.task_model.specs.AtomOrder.{atom_cmp}
use Rattle.task_model.specs.State.{contains, insert, remove, from_list}
use Rattle.task_model.specs.declared.fact.Atom.{Atom}
use Rattle.state_store.specs.Rows.{no_atom, row_atoms, state_of, IsRow, AddsAtoms}
use Rattle.state_store.proofs.RowsLemmas.{atoms_of-grown, known_grown}

-- ---- a state's atoms ascend

is_less : (o : Ordering) → T (is_lt o) → o ≡ Less
is_less Less t = refl
is_less Equal t = absurd t
is_less Greater t = absurd t

parts_of : (a b : Bool) → T (a && b) → T a × T b
parts_of true b t = (tt, t)
parts_of false b t = absurd t

keys_above : (k : Atom) (es : List (Atom × Unit {0})) → T (finite.Entries.below_all atom_cmp k es)
    → AllByRecursion (λ y. atom_cmp k y ≡ Less) (map (λ (e : Atom × Unit {0}). e.0) es)
keys_above k [] t = tt
keys_above k (e ∷ es) t =
    let both = parts_of (is_lt (atom_cmp k e.0)) (finite.Entries.below_all atom_cmp k es) t in
    (is_less (atom_cmp k e.0) both.0, keys_above k es both.1)

keys_sorted : (es : List (Atom × Unit {0})) → T (finite.is_sorted atom_cmp es)
    → IsStrictlySortedBy atom_cmp (map (λ (e : Atom × Unit {0}). e.0) es)
unfolding IsStrictlySortedBy
keys_sorted [] t = tt
keys_sorted (e ∷ es) t =
    let both = parts_of (finite.Entries.below_all atom_cmp e.0 es) (finite.is_sorted atom_cmp es) t in
    (keys_above e.0 es both.0, keys_sorted es both.1)

pub row_sorted : (atoms : List Atom) (row : List ℕ) → IsRow atoms row
    → IsStrictlySortedBy atom_cmp (row_atoms atoms row)
row_sorted atoms row is =
    subst (IsStrictlySortedBy atom_cmp) (sym is.in_order)
    (keys_sorted (finite.entries (state_of atoms row)) (finite.entries_sorted (state_of atoms row)))

row_from : (atoms : List Atom) (row : List ℕ) → All (λ n. n < length atoms) row
    → IsStrictlySortedBy atom_cmp (row_atoms atoms row) → IsRow atoms row
row_from atoms row known sorted =
    record { known = known; in_order = sym (items-from_list (row_atoms atoms row) sorted) }

-- ---- where a search ends

abbrev pub Below : Atom → List Atom → ℕ → Type 0
Below k ks low = AllWithin (λ y. atom_cmp y k ≡ Less) ks 0 low

abbrev pub Above : Atom → List Atom → ℕ → Type 0
Above k ks high = AllWithin (λ y. atom_cmp y k ≡ Greater) ks high (length ks)

lowest : (o : Ordering) → ordering_index o ≤ 0 → o ≡ Less
lowest Less le = refl
lowest Equal le = absurd (omega arith)
lowest Greater le = absurd (omega arith)

highest : (o : Ordering) → 2 ≤ ordering_index o → o ≡ Greater
highest Less le = absurd (omega arith)
highest Equal le = absurd (omega arith)
highest Greater le = refl

module _ (k : Atom) (ks : List Atom) (sorted : IsStrictlySortedBy atom_cmp ks) (m : ℕ) (a : Atom)
    (at : slice_get ks m ≡ Some a) where
  rank_at : (o : Ordering) (d : Atom) → atom_cmp a k ≡ o
      → ordering_index (atom_cmp (get_or ks m d) k) ≡ ordering_index o
  rank_at o d is =
      ap (λ x. ordering_index (atom_cmp x k)) (get_or_from_slice_get ks m a d at) ∙ ap ordering_index is

  pub below_more : atom_cmp a k ≡ Less → Below k ks (m + 1)
  below_more less j d low high =
      let rank = rank_at Less d less in
      let rises = searchable ks k sorted j m d (omega arith) (slice_get_within ks m a at) in
      lowest (atom_cmp (get_or ks j d) k) (omega (arith, rank, rises))

  pub above_less : atom_cmp a k ≡ Greater → Above k ks m
  above_less more j d low high =
      let rank = rank_at Greater d more in
      let rises = searchable ks k sorted m j d low high in
      highest (atom_cmp (get_or ks j d) k) (omega (arith, rank, rises))

  pub equal_at : atom_cmp a k ≡ Equal → HoldsAt (λ y. atom_cmp y k ≡ Equal) ks m
  equal_at equal d = ap (λ x. atom_cmp x k) (get_or_from_slice_get ks m a d at) ∙ equal

-- the atom of a row's number
pub atom_at : (atoms : List Atom) (row : List ℕ) (m : ℕ) (a : Atom) → All (λ n. n < length atoms) row → m < length row
    → a ≡ get_or atoms (get_or row m 0) a → slice_get (row_atoms atoms row) m ≡ Some a
atom_at atoms row m a known within is =
    let n = get_or row m 0 in
    slice_get-map (λ n. get_or atoms n no_atom) row m
    ∙ ap (option_map (λ n. get_or atoms n no_atom)) (slice_get-get_or row m 0 within)
    ∙ ap Some (get_or_from_slice_get atoms n a no_atom (slice_get-get_or atoms n a (known m 0 within) ∙ ap Some (sym is)))

-- what a search in a row found, where the row and the atoms were read through slices
module _ (atoms listed : List Atom) (row read : List ℕ) (k : Atom) (i : ℕ) (e : listed ≡ atoms) (f : read ≡ row) where
  pub place_at : HoldsAt (λ y. atom_cmp y k ≡ Equal) (row_atoms listed read) i
      → HoldsAt (λ y. atom_cmp y k ≡ Equal) (row_atoms atoms row) i
  place_at h = subst (λ ks. HoldsAt (λ y. atom_cmp y k ≡ Equal) ks i) (λ j. row_atoms (e j) (f j)) h

  pub parts_at : IsRow atoms row
      → (IsNonDecreasingBy (λ y. ordering_index (atom_cmp y k)) (row_atoms listed read) → Parts k (row_atoms listed read) i)
      → Parts k (row_atoms atoms row) i
  parts_at is h =
      subst (λ ks. IsNonDecreasingBy (λ y. ordering_index (atom_cmp y k)) ks → Parts k ks i) (λ j. row_atoms (e j) (f j)) h
      (searchable (row_atoms atoms row) k (row_sorted atoms row is))

all_without : (P : ℕ → Type 0) (row : List ℕ) (i : ℕ) → All P row → All P (remove_at row i)
all_without P row i all =
    All-append P (take i row) (drop (suc i) row) (All-take P i row all) (All-drop P (suc i) row all)

all_with : (P : ℕ → Type 0) (row : List ℕ) (i n : ℕ) → All P row → P n → All P (insert_at row i n)
all_with P row i n all here =
    All-append P (take i row) (n ∷ drop i row) (All-take P i row all)
    (All-append P (n ∷ []) (drop i row) (one P n here) (All-drop P i row all))
  where
    one : (P : ℕ → Type 0) (n : ℕ) → P n → All P (n ∷ [])
    one P n here zero d within = here
    one P n here (suc k) d within = absurd (omega arith)

-- ---- an atom taken out

module _ (atoms : List Atom) (row : List ℕ) (is : IsRow atoms row) (k : Atom) (i : ℕ) where
  abbrev pub ks : List Atom
  ks = row_atoms atoms row

  long : length ks ≡ length row
  long = length-map row (λ n. get_or atoms n no_atom)

  pub take_found : i < length row → HoldsAt (λ y. atom_cmp y k ≡ Equal) ks i
      → IsRow atoms (remove_at row i) × (state_of atoms (remove_at row i) ≡ remove (state_of atoms row) k)
  take_found within at =
      let moved : row_atoms atoms (remove_at row i) ≡ remove_at ks i = map-remove (λ n. get_or atoms n no_atom) row i in
      let inside : i < length ks = omega (arith, long, within) in (
        row_from atoms (remove_at row i) (all_without (λ n. n < length atoms) row i is.known)
            (subst (IsStrictlySortedBy atom_cmp) (sym moved) (sorted_without ks i (row_sorted atoms row is))),
        ap from_list moved ∙ from_list-remove ks k i (row_sorted atoms row is) inside at,
      )

  absent : Parts k ks i → contains (state_of atoms row) k ≡ false
  absent parts = contains-from_list ks k ∙ any_absent ks k i parts

  pub take_missing : Parts k ks i → state_of atoms row ≡ remove (state_of atoms row) k
  take_missing parts = sym (remove-absent (state_of atoms row) k (absent parts))

  -- ---- an atom put in

  pub put_found : i < length row → HoldsAt (λ y. atom_cmp y k ≡ Equal) ks i
      → state_of atoms row ≡ insert (state_of atoms row) k
  put_found within at =
      let there : contains (state_of atoms row) k ≡ true =
      contains-from_list ks k ∙ any_found ks k i (omega (arith, long, within)) at in
      sym (insert-there (state_of atoms row) k there)

  pub put_missing : (new : List Atom) (n : ℕ) → AddsAtoms atoms new → slice_get new n ≡ Some k → i ≤ length row → Parts k ks i
      → IsRow new (insert_at row i n) × (state_of new (insert_at row i n) ≡ insert (state_of atoms row) k)
  put_missing new n grows at within parts =
      let same : row_atoms new row ≡ ks = ap (λ xs. row_atoms xs row) grows.1 ∙ atoms_of-grown atoms grows.0 row is.known in
      let moved : row_atoms new (insert_at row i n) ≡ insert_at ks i k =
      map-insert (λ n. get_or new n no_atom) row i n
      ∙ (λ j. insert_at (same j) i (get_or_from_slice_get new n k no_atom at j)) in
      let known : All (λ n. n < length new) row =
      subst (λ xs. All (λ n. n < length xs) row) (sym grows.1) (known_grown atoms grows.0 row is.known) in (
        row_from new (insert_at row i n) (all_with (λ n. n < length new) row i n known (slice_get_within new n k at))
            (subst (IsStrictlySortedBy atom_cmp) (sym moved)
            (sorted_with ks k i (row_sorted atoms row is) (omega (arith, long, within)) parts)),
        ap from_list moved ∙ from_list-insert ks k i,
      )
