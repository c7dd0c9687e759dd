-- Ascending lists of atoms: what a search in them finds, and what they are with an atom put in or taken out.
use Rattle.std.proofs.Common.{◌≡◌, ℕ, zero, suc, ◌+◌, ◌<◌, ◌≤◌, Bool, true, false, not, ◌&&◌, ◌||◌, List, [], ◌∷◌, length, get_or, refl, sym, ap, ◌∙◌, subst, arith, Result, Ok, Err, is_ok, nat_eq, ◌==◌}
use Rattle.std.specs.Cmp.Derive.{tie, on_tied, then_tied}
use Rattle.std.specs.Cmp.{unsigned_ties}
use Rattle.std.specs.Cmp.Lexicographic.{pointwise, slice_cmp, lists_ties}
use Rattle.std.proofs.lemmas.List.Folds.{list_any_at}
use Rattle.std.proofs.lemmas.List.Kept.{Contains-dedup, Contains-from_dedup, IsStrictlySortedBy-dedup}
use Rattle.std.proofs.lemmas.List.Sorted.{searchable_from_sorted, list_any-IsPermutation}
use Rattle.std.proofs.lemmas.Map.Keys.{Less-from_sorted}
use Rattle.std.proofs.lemmas.Map.Views.{Contains-from_any, list_any-from_Contains}
use Rattle.std.specs.Cmp.{IsEquivalence, tied_back, both_ways, eq_by_cmp_equiv}
use Rattle.std.specs.List.{list_any, insert as insert_at, remove as remove_at, AllByRecursion, HoldsAt, dedup}
use Rattle.std.specs.List.Sorted.{IsStrictlySortedBy, IsNonDecreasingBy, IsPartitionPoint, IsSearchInRange, IsBinarySearchResult, IsSorted, IsPermutation}
use Rattle.std.specs.Ordering.{nat_cmp, is_eq, is_lt, ordering_index, ordering_reverse, eq_by_cmp}
use Rattle.std.specs.declared.cmp.Ordering.{Ordering}
use Rattle.std.specs.declared.cmp.Ordering.TheVariants.{Less, Equal, Greater}
use Rattle.std.proofs.lemmas.Bool.{or_from}
use Rattle.task_model.specs.AtomOrder.{atom_cmp}
use Rattle.task_model.specs.State.{Atoms, contains, insert, remove, from_list}
use Rattle.task_model.specs.declared.fact.Atom.{Atom}
use Rattle.task_model.proofs.StateLemmas.{atoms_total, atoms_tied, contains-from_list, contains-insert, contains-remove, same_atoms}
use Rattle.lemmas.proofs.Bools.{or_swap}

-- ---- what a search finds

-- where a search ends that finds nothing
abbrev pub Parts : Atom → List Atom → ℕ → Type 0
Parts k ks i = IsPartitionPoint (λ y. atom_cmp y k ≡ Less) (λ y. atom_cmp y k ≡ Greater) ks i

pub searchable : (ks : List Atom) (k : Atom) → IsStrictlySortedBy atom_cmp ks
    → IsNonDecreasingBy (λ y. ordering_index (atom_cmp y k)) ks
searchable ks k sorted =
    searchable_from_sorted atoms_total (λ a. a) ks k (λ j d low high.
    ap is_lt (atoms_total.antisymm (get_or ks (j + 1) d) (get_or ks j d)
    ∙ ap ordering_reverse (Less-from_sorted atom_cmp ks j (j + 1) d sorted (omega arith) high)))

pub any_found : (ks : List Atom) (k : Atom) (i : ℕ) → i < length ks
    → HoldsAt (λ y. atom_cmp y k ≡ Equal) ks i
    → list_any (eq_by_cmp atom_cmp k) ks ≡ true
any_found ks k i within at = list_any_at (eq_by_cmp atom_cmp k) ks i k within (ap is_eq (tied_back atoms_total (get_or ks i k) k (at k)))

apart_below : (y k : Atom) → atom_cmp y k ≡ Less → eq_by_cmp atom_cmp k y ≡ false
apart_below y k e = ap is_eq (atoms_total.antisymm k y ∙ ap ordering_reverse e)

apart_above : (y k : Atom) → atom_cmp y k ≡ Greater → eq_by_cmp atom_cmp k y ≡ false
apart_above y k e = ap is_eq (atoms_total.antisymm k y ∙ ap ordering_reverse e)

pub any_absent : (ks : List Atom) (k : Atom) (i : ℕ) → Parts k ks i
    → list_any (eq_by_cmp atom_cmp k) ks ≡ false
any_absent [] k i parts = refl
any_absent (x ∷ xs) k zero parts =
    or_from _ _ (apart_above x k (parts.1 0 x (omega arith) (omega arith)))
    (any_absent xs k zero ((λ j d low high. absurd (omega arith)), (λ j d low high. parts.1 (suc j) d (omega arith) (omega arith))))
any_absent (x ∷ xs) k (suc i) parts =
    or_from _ _ (apart_below x k (parts.0 0 x (omega arith) (omega arith)))
    (any_absent xs k i
    ((λ j d low high. parts.0 (suc j) d (omega arith) (omega arith)), (λ j d low high. parts.1 (suc j) d (omega arith) (omega arith))))

-- ---- an atom put in

all_with : {A : Type 0} (P : A → Type 0) (xs : List A) (i : ℕ) (x : A) → AllByRecursion P xs → P x
    → AllByRecursion P (insert_at xs i x)
all_with P [] zero x all here = (here, tt)
all_with P [] (suc i) x all here = (here, tt)
all_with P (y ∷ ys) zero x all here = (here, all)
all_with P (y ∷ ys) (suc i) x all here = (all.0, all_with P ys i x all.1 here)

all_above : (k x : Atom) (ys : List Atom) → atom_cmp k x ≡ Less
    → AllByRecursion (λ y. atom_cmp x y ≡ Less) ys
    → AllByRecursion (λ y. atom_cmp k y ≡ Less) ys
all_above k x [] less all = tt
all_above k x (y ∷ ys) less all = (atoms_total.trans k x y less all.0, all_above k x ys less all.1)

pub sorted_with : (ks : List Atom) (k : Atom) (i : ℕ) → IsStrictlySortedBy atom_cmp ks
    → i ≤ length ks → Parts k ks i
    → IsStrictlySortedBy atom_cmp (insert_at ks i k)
unfolding IsStrictlySortedBy
sorted_with [] k zero sorted within parts = (tt, tt)
sorted_with [] k (suc i) sorted within parts = (tt, tt)
sorted_with (x ∷ xs) k zero sorted within parts =
    let less : atom_cmp k x ≡ Less = atoms_total.antisymm k x ∙ ap ordering_reverse (parts.1 0 x (omega arith) (omega arith)) in
    ((less, all_above k x xs less sorted.0), sorted)
sorted_with (x ∷ xs) k (suc i) sorted within parts = (
  all_with (λ y. atom_cmp x y ≡ Less) xs i k sorted.0 (parts.0 0 x (omega arith) (omega arith)),
  sorted_with xs k i sorted.1 (omega arith)
      ((λ j d low high. parts.0 (suc j) d (omega arith) (omega arith)), (λ j d low high. parts.1 (suc j) d (omega arith) (omega arith))),
)

any_with : (test : Atom → Bool) (ks : List Atom) (k : Atom) (i : ℕ)
    → list_any test (insert_at ks i k) ≡ (test k || list_any test ks)
any_with test [] k zero = refl
any_with test [] k (suc i) = refl
any_with test (x ∷ xs) k zero = refl
any_with test (x ∷ xs) k (suc i) =
    ap (λ b. test x || b) (any_with test xs k i) ∙ or_swap (test x) (test k) (list_any test xs)

pub from_list-insert : (ks : List Atom) (k : Atom) (i : ℕ)
    → from_list (insert_at ks i k) ≡ insert (from_list ks) k
from_list-insert ks k i =
    same_atoms (from_list (insert_at ks i k)) (insert (from_list ks) k) (λ q.
    contains-from_list (insert_at ks i k) q ∙ any_with (eq_by_cmp atom_cmp q) ks k i
    ∙ ap (λ b. eq_by_cmp atom_cmp q k || b) (sym (contains-from_list ks q)) ∙ sym (contains-insert (from_list ks) k q))

tied : (q k : Atom) → eq_by_cmp atom_cmp q k ≡ true → q ≡ k
tied q k e = atoms_tied q k (is_equal (atom_cmp q k) e)
  where
    is_equal : (o : Ordering) → is_eq o ≡ true → o ≡ Equal
    is_equal Less e = absurd (cc)
    is_equal Equal e = refl
    is_equal Greater e = absurd (cc)

-- a state that has the atom is the same with it
pub insert-there : (s : Atoms) (k : Atom) → contains s k ≡ true → insert s k ≡ s
insert-there s k there =
    same_atoms (insert s k) s (λ q. contains-insert s k q ∙ by q (eq_by_cmp atom_cmp q k) refl)
  where
    by : (q : Atom) (b : Bool) → eq_by_cmp atom_cmp q k ≡ b → (b || contains s q) ≡ contains s q
    by q true e = sym (ap (contains s) (tied q k e) ∙ there)
    by q false e = refl

-- ---- an atom taken out

all_without : {A : Type 0} (P : A → Type 0) (xs : List A) (i : ℕ) → AllByRecursion P xs
    → AllByRecursion P (remove_at xs i)
all_without P [] zero all = tt
all_without P [] (suc i) all = tt
all_without P (y ∷ ys) zero all = all.1
all_without P (y ∷ ys) (suc i) all = (all.0, all_without P ys i all.1)

pub sorted_without : (ks : List Atom) (i : ℕ) → IsStrictlySortedBy atom_cmp ks
    → IsStrictlySortedBy atom_cmp (remove_at ks i)
unfolding IsStrictlySortedBy
sorted_without [] zero sorted = tt
sorted_without [] (suc i) sorted = tt
sorted_without (x ∷ xs) zero sorted = sorted.1
sorted_without (x ∷ xs) (suc i) sorted =
    (all_without (λ y. atom_cmp x y ≡ Less) xs i sorted.0, sorted_without xs i sorted.1)

all_got : {A : Type 0} (P : A → Type 0) (xs : List A) (i : ℕ) (d : A) → AllByRecursion P xs
    → i < length xs → P (get_or xs i d)
all_got P [] i d all within = absurd (omega arith)
all_got P (y ∷ ys) zero d all within = all.0
all_got P (y ∷ ys) (suc i) d all within = all_got P ys i d all.1 (omega arith)

none_above : (k : Atom) (ys : List Atom) → AllByRecursion (λ y. atom_cmp k y ≡ Less) ys
    → list_any (eq_by_cmp atom_cmp k) ys ≡ false
none_above k [] all = refl
none_above k (y ∷ ys) all = or_from _ _ (ap is_eq all.0) (none_above k ys all.1)

gone : (ks : List Atom) (k : Atom) (i : ℕ) → IsStrictlySortedBy atom_cmp ks → i < length ks
    → HoldsAt (λ y. atom_cmp y k ≡ Equal) ks i
    → list_any (eq_by_cmp atom_cmp k) (remove_at ks i) ≡ false
unfolding IsStrictlySortedBy
gone [] k i sorted within at = absurd (omega arith)
gone (x ∷ xs) k zero sorted within at =
    none_above k xs (subst (λ a. AllByRecursion (λ y. atom_cmp a y ≡ Less) xs) (atoms_tied x k (at x)) sorted.0)
gone (x ∷ xs) k (suc i) sorted within at =
    let less : atom_cmp x k ≡ Less =
    subst (λ a. atom_cmp x a ≡ Less) (atoms_tied (get_or xs i x) k (at x))
    (all_got (λ y. atom_cmp x y ≡ Less) xs i x sorted.0 (omega arith)) in
    or_from _ _ (apart_below x k less) (gone xs k i sorted.1 (omega arith) (λ d. at d))

others : (ks : List Atom) (k q : Atom) (i : ℕ) → i < length ks
    → HoldsAt (λ y. atom_cmp y k ≡ Equal) ks i → eq_by_cmp atom_cmp q k ≡ false
    → list_any (eq_by_cmp atom_cmp q) (remove_at ks i) ≡ list_any (eq_by_cmp atom_cmp q) ks
others [] k q i within at e = absurd (omega arith)
others (x ∷ xs) k q zero within at e =
    ap (λ b. b || list_any (eq_by_cmp atom_cmp q) xs) (sym (ap (eq_by_cmp atom_cmp q) (atoms_tied x k (at x)) ∙ e))
others (x ∷ xs) k q (suc i) within at e =
    ap (λ b. eq_by_cmp atom_cmp q x || b) (others xs k q i (omega arith) (λ d. at d) e)

any_without : (ks : List Atom) (k q : Atom) (i : ℕ) → IsStrictlySortedBy atom_cmp ks → i < length ks
    → HoldsAt (λ y. atom_cmp y k ≡ Equal) ks i
    → list_any (eq_by_cmp atom_cmp q) (remove_at ks i) ≡ (not (eq_by_cmp atom_cmp q k) && list_any (eq_by_cmp atom_cmp q) ks)
any_without ks k q i sorted within at = by (eq_by_cmp atom_cmp q k) refl
  where
    by : (b : Bool) → eq_by_cmp atom_cmp q k ≡ b
        → list_any (eq_by_cmp atom_cmp q) (remove_at ks i) ≡ (not b && list_any (eq_by_cmp atom_cmp q) ks)
    by true e =
        ap (λ a. list_any (eq_by_cmp atom_cmp a) (remove_at ks i)) (tied q k e)
        ∙ gone ks k i sorted within at
    by false e = others ks k q i within at e

pub from_list-remove : (ks : List Atom) (k : Atom) (i : ℕ) → IsStrictlySortedBy atom_cmp ks
    → i < length ks
    → HoldsAt (λ y. atom_cmp y k ≡ Equal) ks i → from_list (remove_at ks i) ≡ remove (from_list ks) k
from_list-remove ks k i sorted within at =
    same_atoms (from_list (remove_at ks i)) (remove (from_list ks) k) (λ q.
    contains-from_list (remove_at ks i) q ∙ any_without ks k q i sorted within at
    ∙ ap (λ b. not (eq_by_cmp atom_cmp q k) && b) (sym (contains-from_list ks q)) ∙ sym (contains-remove (from_list ks) k q))

-- a state that lacks the atom is the same without it
pub remove-absent : (s : Atoms) (k : Atom) → contains s k ≡ false → remove s k ≡ s
remove-absent s k absent =
    same_atoms (remove s k) s (λ q. contains-remove s k q ∙ by q (eq_by_cmp atom_cmp q k) refl)
  where
    by : (q : Atom) (b : Bool) → eq_by_cmp atom_cmp q k ≡ b → (not b && contains s q) ≡ contains s q
    by q true e = sym (ap (contains s) (tied q k e) ∙ absent)
    by q false e = refl

-- ---- whether an atom is there

pub found_is : (ks : List Atom) (k : Atom) → IsStrictlySortedBy atom_cmp ks → (found : Result ℕ ℕ)
    → IsSearchInRange found (length ks)
    → IsBinarySearchResult (λ y. atom_cmp y k) ks found → is_ok found ≡ list_any (eq_by_cmp atom_cmp k) ks
found_is ks k sorted (Ok i) within at = sym (any_found ks k i within at)
found_is ks k sorted (Err i) within parts = sym (any_absent ks k i (parts (searchable ks k sorted)))

-- ---- atoms in any order

pub ties : (x y : Atom)
    → ((x.pred == y.pred) && pointwise nat_eq x.args y.args) ≡ eq_by_cmp atom_cmp x y
ties = (then_tied (on_tied (λ (a : Atom). a.pred) (tie nat_cmp unsigned_ties))
    (on_tied (λ (a : Atom). a.args) (tie (slice_cmp nat_cmp) (lists_ties nat_cmp unsigned_ties)))).ties

abbrev pub same_atom : Atom → Atom → Bool
same_atom x y = (x.pred == y.pred) && pointwise nat_eq x.args y.args

pub same_is : (x y : Atom) → same_atom x y ≡ true → x ≡ y
same_is x y e = tied x y (sym (ties x y) ∙ e)

pub sorted_of : (sorted : List Atom) → IsSorted atom_cmp sorted
    → IsStrictlySortedBy atom_cmp (dedup same_atom sorted)
sorted_of sorted is = IsStrictlySortedBy-dedup atoms_total ties sorted is

any_deduped : (xs : List Atom) (q : Atom)
    → list_any (eq_by_cmp atom_cmp q) (dedup same_atom xs) ≡ list_any (eq_by_cmp atom_cmp q) xs
any_deduped xs q =
    both_ways _ _
    (λ e. list_any-from_Contains (eq_by_cmp_equiv atoms_total) q xs
    (Contains-from_dedup same_atom xs q (Contains-from_any tied q (dedup same_atom xs) e)))
    (λ e. list_any-from_Contains (eq_by_cmp_equiv atoms_total) q
    (dedup same_atom xs) (Contains-dedup same_equiv same_is xs q (Contains-from_any tied q xs e)))
  where
    same_equiv : IsEquivalence same_atom
    same_equiv = subst IsEquivalence (λ i x y. sym (ties x y) i) (eq_by_cmp_equiv atoms_total)

-- the set of a list is that of the list sorted, with each member once
pub from_list-dedup : (xs sorted : List Atom) → IsPermutation xs sorted
    → from_list (dedup same_atom sorted) ≡ from_list xs
from_list-dedup xs sorted moved =
    same_atoms (from_list (dedup same_atom sorted)) (from_list xs) (λ q.
    contains-from_list (dedup same_atom sorted) q ∙ any_deduped sorted q
    ∙ sym (list_any-IsPermutation (eq_by_cmp atom_cmp q) xs sorted moved) ∙ sym (contains-from_list xs q))
