-- Rows of pairs are the pairs of steps that conflict, in order.
use Rattle.std.proofs.Common.{◌≡◌, ◌↔◌, ℕ, zero, suc, ◌+◌, ◌-◌, ◌<◌, ◌≤◌, Bool, true, false, cond, List, [], ◌∷◌, ◌++◌, map, filter, length, refl, sym, ap, ◌∙◌, subst, arith, Contains, inl, inr, Some, None}
use Rattle.std.proofs.lemmas.List.{append-nil, append_assoc}
use Rattle.std.proofs.lemmas.Option.{slice_get_within}
use Rattle.std.specs.Cmp.{nat_cmp_is, ranked}
use Rattle.std.specs.List.{AllByRecursion, flat_map}
use Rattle.std.specs.List.Sorted.{IsStrictlySortedBy}
use Rattle.std.specs.Ordering.{nat_cmp, ordering_then}
use Rattle.std.specs.declared.cmp.Ordering.TheVariants.{Equal, Less}
use Rattle.lemmas.proofs.Ascending.{all_at, all_from, ascending, contains_cases, contains_here, contains_later, contains_none, from_flat_map, in_flat_map, rising_flat_map}
use Rattle.lemmas.proofs.Distinct.{from_mapped, in_mapped}
use Rattle.lemmas.proofs.ListTests.{get_there}
use Rattle.lemmas.proofs.Numbers.{numbers_more}
use Rattle.lemmas.specs.Lists.{AreAscending, numbers_from}
use Rattle.task_model.specs.declared.task.GroundAction.{GroundAction}
use Rattle.task_model.specs.declared.task.Task.{Task}
use Rattle.plan_deorder.proofs.ClashLemmas.{clashes}
use Rattle.plan_deorder.proofs.OrderLemmas.{highest, lowest}
use Rattle.plan_deorder.specs.Clashes.{AreTouched, clash_at, clash_of, pair_of, pairs_from}
use Rattle.plan_deorder.specs.Orders.{ConflictAt, Pair, pair_cmp, step_at}
use Rattle.plan_deorder.specs.declared.touched.Touched.{Touched}

-- ---- lists that are filtered

pub from_filter : {A : Type 0} (p : A → Bool) (xs : List A) (x : A) → Contains (filter p xs) x
    → Contains xs x × (p x ≡ true)
from_filter p [] x c = absurd (contains_none x c)
from_filter p (y ∷ ys) x c = by (λ d. from_filter p ys x d) (p y) refl c
  where
    by : (Contains (filter p ys) x → Contains ys x × (p x ≡ true)) → (b : Bool) → p y ≡ b
        → Contains (cond b (y ∷ filter p ys) (filter p ys)) x → Contains (y ∷ ys) x × (p x ≡ true)
    by rest true passes c =
        elim (contains_cases y (filter p ys) x c) [
          | inl same ↦ (subst (λ z. Contains (y ∷ ys) z) same (contains_here y ys), sym (ap p same) ∙ passes)
          | inr there ↦ let r = rest there in (contains_later y ys x r.0, r.1)
        ]
    by rest false fails c = let r = rest c in (contains_later y ys x r.0, r.1)

pub in_filter : {A : Type 0} (p : A → Bool) (xs : List A) (x : A) → Contains xs x → p x ≡ true → Contains (filter p xs) x
in_filter p [] x c passes = absurd (contains_none x c)
in_filter p (y ∷ ys) x c passes =
    elim (contains_cases y ys x c) [
      | inl same ↦
          let e : p y ≡ true = ap p same ∙ passes in
          subst (λ b. Contains (cond b (y ∷ filter p ys) (filter p ys)) x) (sym e)
          (subst (λ z. Contains (y ∷ filter p ys) z) same (contains_here y (filter p ys)))
      | inr there ↦ by (p y) (in_filter p ys x there passes)
    ]
  where
    by : (b : Bool) → Contains (filter p ys) x → Contains (cond b (y ∷ filter p ys) (filter p ys)) x
    by true rest = contains_later y (filter p ys) x rest
    by false rest = rest

-- ---- lists that grow

pub map_push : {A B : Type 0} (f : A → B) (xs : List A) (x : A) → map f (xs ++ x ∷ []) ≡ map f xs ++ f x ∷ []
map_push f [] x = refl
map_push f (y ∷ ys) x = ap (λ zs. f y ∷ zs) (map_push f ys x)

pub filter_push : {A : Type 0} (p : A → Bool) (xs : List A) (x : A)
    → filter p (xs ++ x ∷ []) ≡ cond (p x) (filter p xs ++ x ∷ []) (filter p xs)
filter_push p [] x = refl
filter_push p (y ∷ ys) x = by (p y) (p x) (filter_push p ys x)
  where
    by : (b c : Bool) → filter p (ys ++ x ∷ []) ≡ cond c (filter p ys ++ x ∷ []) (filter p ys)
        → cond b (y ∷ filter p (ys ++ x ∷ [])) (filter p (ys ++ x ∷ []))
        ≡ cond c (cond b (y ∷ filter p ys) (filter p ys) ++ x ∷ []) (cond b (y ∷ filter p ys) (filter p ys))
    by true true rest = ap (λ zs. y ∷ zs) rest
    by true false rest = ap (λ zs. y ∷ zs) rest
    by false c rest = rest

pub flat_map_push : {A B : Type 0} (f : A → List B) (xs : List A) (x : A) → flat_map f (xs ++ x ∷ []) ≡ flat_map f xs ++ f x
flat_map_push f [] x = append-nil (f x)
flat_map_push f (y ∷ ys) x = ap (λ zs. f y ++ zs) (flat_map_push f ys x) ∙ sym (append_assoc (f y) (flat_map f ys) (f x))

pub numbers_next : (n : ℕ) → numbers_from 0 (n + 1) ≡ numbers_from 0 n ++ n ∷ []
numbers_next n = let zeros : 0 + n ≡ n = omega arith in numbers_more 0 n ∙ ap (λ k. numbers_from 0 n ++ k ∷ []) zeros

-- ---- members of a row

pub record InRow (touched : List Touched) (i : ℕ) (p : Pair) : Type 0 where
  pub j : ℕ
  pub later : i < j
  pub within : j < length touched
  pub clashing : clash_at touched i j ≡ true
  pub is : p ≡ pair_of i j

pub from_row : (touched : List Touched) (i : ℕ) (p : Pair) → Contains (pairs_from touched i) p → InRow touched i p
from_row touched i p c =
    let size = length touched - (i + 1) in
    let mapped = from_mapped (pair_of i) (filter (clash_at touched i) (numbers_from (i + 1) size)) p c in
    let kept = from_filter (clash_at touched i) (numbers_from (i + 1) size) mapped.0 mapped.1 in
    let bounds = lowest (i + 1) size mapped.0 kept.0 in
    record {
      j = mapped.0;
      later = omega (arith, bounds.0);
      within = omega (arith, bounds.0, bounds.1);
      clashing = kept.1;
      is = mapped.2;
    }

-- the pairs of the step at the place with those up to another
abbrev pub row_to : List Touched → ℕ → ℕ → List Pair
row_to touched i j = map (pair_of i) (filter (clash_at touched i) (numbers_from (i + 1) (j - (i + 1))))

pub row_next : (touched : List Touched) (i j : ℕ) → i + 1 ≤ j
    → row_to touched i (j + 1) ≡ cond (clash_at touched i j) (row_to touched i j ++ pair_of i j ∷ []) (row_to touched i j)
row_next touched i j h =
    ap (λ n. map (pair_of i) (filter (clash_at touched i) (numbers_from (i + 1) n))) longer
    ∙ ap (λ ns. map (pair_of i) (filter (clash_at touched i) ns)) (numbers_more (i + 1) (j - (i + 1))
    ∙ ap (λ k. numbers_from (i + 1) (j - (i + 1)) ++ k ∷ []) last)
    ∙ ap (map (pair_of i)) (filter_push (clash_at touched i) (numbers_from (i + 1) (j - (i + 1))) j)
    ∙ by (clash_at touched i j)
  where
    longer : (j + 1) - (i + 1) ≡ (j - (i + 1)) + 1
    longer = omega (arith, h)

    last : (i + 1) + (j - (i + 1)) ≡ j
    last = omega (arith, h)

    by : (b : Bool)
        → map (pair_of i) (cond b (filter (clash_at touched i) (numbers_from (i + 1) (j - (i + 1))) ++ j ∷ []) (filter (clash_at touched i) (numbers_from (i + 1) (j - (i + 1)))))
        ≡ cond b (row_to touched i j ++ pair_of i j ∷ []) (row_to touched i j)
    by true = map_push (pair_of i) (filter (clash_at touched i) (numbers_from (i + 1) (j - (i + 1)))) j
    by false = refl

pub in_row : (touched : List Touched) (i j : ℕ) → i < j → j < length touched → clash_at touched i j ≡ true
    → Contains (pairs_from touched i) (pair_of i j)
in_row touched i j less within clashing =
    let size = length touched - (i + 1) in
    in_mapped (pair_of i) (filter (clash_at touched i) (numbers_from (i + 1) size)) j
    (in_filter (clash_at touched i) (numbers_from (i + 1) size) j
    (highest (i + 1) size j (omega (arith, less)) (omega (arith, less, within))) clashing)

-- ---- the pairs

abbrev pub pairs_in : List Touched → List Pair
pairs_in touched = flat_map (pairs_from touched) (numbers_from 0 (length touched))

module _ (task : Task) (steps : List GroundAction) (touched : List Touched) (are : AreTouched task steps touched) where
  clash_told : (i j : ℕ) → i < length touched → j < length touched → clash_at touched i j ≡ true
      → ConflictAt task steps (i + 1) (j + 1)
  clash_told i j within inside e =
      let a = get_there touched i within in
      let b = get_there touched j inside in
      let s = get_there steps i (omega (arith, within, are.long)) in
      let t = get_there steps j (omega (arith, inside, are.long)) in
      let next : i + 1 ≡ suc i = omega arith in
      let other : j + 1 ≡ suc j = omega arith in
      record {
        first = s.0;
        second = t.0;
        at_first = ap (step_at steps) next ∙ s.1;
        at_second = ap (step_at steps) other ∙ t.1;
        conflict = (clashes task s.0 t.0 a.0 b.0 (are.each i s.0 a.0 s.1 a.1) (are.each j t.0 b.0 t.1 b.1)).0
            (sym (λ k. clash_of (a.1 k) (b.1 k)) ∙ e);
      }

  clash_from : (i j : ℕ) → ConflictAt task steps (suc i) (suc j)
      → (i < length touched) × (j < length touched) × (clash_at touched i j ≡ true)
  clash_from i j c =
      let within = slice_get_within steps i c.first c.at_first in
      let inside = slice_get_within steps j c.second c.at_second in
      let low : i < length touched = omega (arith, within, are.long) in
      let high : j < length touched = omega (arith, inside, are.long) in
      let a = get_there touched i low in
      let b = get_there touched j high in
      let is = are.each i c.first a.0 c.at_first a.1 in
      let other = are.each j c.second b.0 c.at_second b.1 in
      (low, high, (λ k. clash_of (a.1 k) (b.1 k)) ∙ (clashes task c.first c.second a.0 b.0 is other).1 c.conflict)

  pub each_pair : (i j : ℕ) → Contains (pairs_in touched) (i, j) ↔ ((i < j) × ConflictAt task steps i j)
  each_pair i j = (from, to i j)
    where
      from : Contains (pairs_in touched) (i, j) → (i < j) × ConflictAt task steps i j
      from c =
          let row = from_flat_map (pairs_from touched) (numbers_from 0 (length touched)) (i, j) c in
          let bounds = lowest 0 (length touched) row.0 row.1 in
          let in_it = from_row touched row.0 (i, j) row.2 in
          let first : row.0 + 1 ≡ i = sym (ap (λ (p : Pair). p.0) in_it.is) in
          let second : in_it.j + 1 ≡ j = sym (ap (λ (p : Pair). p.1) in_it.is) in
          let told = clash_told row.0 in_it.j (omega (arith, bounds.1)) in_it.within in_it.clashing in (
            omega (arith, first, second, in_it.later),
            subst (λ n. ConflictAt task steps i n) second (subst (λ n. ConflictAt task steps n (in_it.j + 1)) first told),
          )

      to : (i j : ℕ) → (i < j) × ConflictAt task steps i j → Contains (pairs_in touched) (i, j)
      to zero j both = let none : None ≡ Some both.1.first = both.1.at_first in absurd (cc)
      to (suc i) zero both = absurd (omega (arith, both.0))
      to (suc i) (suc j) both =
          let c = clash_from i j both.1 in
          let same : pair_of i j ≡ (suc i, suc j) =
          (let first : i + 1 ≡ suc i = omega arith in let second : j + 1 ≡ suc j = omega arith in λ k. (first k, second k)) in
          subst (λ p. Contains (pairs_in touched) p) same
          (in_flat_map (pairs_from touched) (numbers_from 0 (length touched)) i (pair_of i j)
          (highest 0 (length touched) i (omega arith) (omega (arith, c.0)))
          (in_row touched i j (omega (arith, both.0)) c.1 c.2))

-- ---- their order

less_told : (m n : ℕ) → m < n → nat_cmp m n ≡ Less
less_told m n h = sym (nat_cmp_is m n Less h)

numbers_rise : (first count : ℕ) → IsStrictlySortedBy nat_cmp (numbers_from first count)
unfolding IsStrictlySortedBy
numbers_rise first zero = tt
numbers_rise first (suc count) = (
  all_from (λ m. nat_cmp first m ≡ Less) (numbers_from (first + 1) count) (λ m c.
      let b = lowest (first + 1) count m c in less_told first m (omega (arith, b.0))),
  numbers_rise (first + 1) count,
)

filter_rises : (p : ℕ → Bool) (xs : List ℕ) → IsStrictlySortedBy nat_cmp xs → IsStrictlySortedBy nat_cmp (filter p xs)
unfolding IsStrictlySortedBy
filter_rises p [] sorted = tt
filter_rises p (x ∷ xs) sorted =
    by (p x)
    (all_from (λ m. nat_cmp x m ≡ Less) (filter p xs) (λ m c.
    all_at (λ m. nat_cmp x m ≡ Less) xs sorted.0 m (from_filter p xs m c).0))
    (filter_rises p xs sorted.1)
  where
    by : (b : Bool) → AllByRecursion (λ m. nat_cmp x m ≡ Less) (filter p xs) → IsStrictlySortedBy nat_cmp (filter p xs)
        → IsStrictlySortedBy nat_cmp (cond b (x ∷ filter p xs) (filter p xs))
    by true below rest = (below, rest)
    by false below rest = rest

row_rises : (i : ℕ) (xs : List ℕ) → IsStrictlySortedBy nat_cmp xs → IsStrictlySortedBy pair_cmp (map (pair_of i) xs)
unfolding IsStrictlySortedBy
row_rises i [] sorted = tt
row_rises i (x ∷ xs) sorted = (
  all_from (λ q. pair_cmp (pair_of i x) q ≡ Less) (map (pair_of i) xs) (λ q c.
      let from = from_mapped (pair_of i) xs q c in
      let less = all_at (λ m. nat_cmp x m ≡ Less) xs sorted.0 from.0 from.1 in
      ap (pair_cmp (pair_of i x)) from.2 ∙ later i x from.0 less),
  row_rises i xs sorted.1,
)
  where
    later : (i x y : ℕ) → nat_cmp x y ≡ Less → pair_cmp (pair_of i x) (pair_of i y) ≡ Less
    later i x y less =
        let same : nat_cmp (i + 1) (i + 1) ≡ Equal = sym (nat_cmp_is (i + 1) (i + 1) Equal refl) in
        let lt = ranked x y Less (sym less) in
        let behind : nat_cmp (x + 1) (y + 1) ≡ Less = less_told (x + 1) (y + 1) (omega (arith, lt)) in
        λ k. ordering_then (same k) (behind k)

pub pairs_rise : (touched : List Touched) → AreAscending pair_cmp (pairs_in touched)
pairs_rise touched =
    ascending pair_cmp (pairs_in touched)
    (rising_flat_map nat_cmp pair_cmp (pairs_from touched) (numbers_from 0 (length touched)) (numbers_rise 0 (length touched))
    (λ i. row_rises i _ (filter_rises (clash_at touched i) _ (numbers_rise (i + 1) (length touched - (i + 1)))))
    (λ x y a b less c d.
    let p = from_row touched x a c in
    let q = from_row touched y b d in
    (λ k. pair_cmp (p.is k) (q.is k)) ∙ apart x y p.j q.j less))
  where
    apart : (x y m n : ℕ) → nat_cmp x y ≡ Less → pair_cmp (pair_of x m) (pair_of y n) ≡ Less
    apart x y m n less =
        let lt = ranked x y Less (sym less) in
        ap (λ o. ordering_then o (nat_cmp (m + 1) (n + 1))) (less_told (x + 1) (y + 1) (omega (arith, lt)))
