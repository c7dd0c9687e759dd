-- Lists of distinct members.
use Rattle.std.proofs.Common.{◌≡◌, suc, List, ◌∷◌, arith, zero, [], ◌++◌, map, Contains, refl, sym, ap, subst, inl, inr, ℕ, ◌+◌, ◌<◌, Bool, true, false, length, get_or, ◌∙◌, Some, slice_get, nat_lt}
use Rattle.lemmas.specs.Lists.{AreAscending, AreDistinct}
use Rattle.std.proofs.lemmas.List.Elements.{Contains-append_cases}
use Rattle.lemmas.proofs.Ascending.{contains_none, contains_here, contains_later, contains_cases, less_greater}
use Rattle.lemmas.proofs.Members.{place_of, member_at, distinct_nil, get_append, get_behind}
use Rattle.std.proofs.lemmas.Bool.{cases_lt, ltb-true, ltb-false}
use Rattle.std.proofs.lemmas.Map.Keys.{IsDistinct-from_apart, apart_from_distinct, IsDistinct-IsPermutation}
use Rattle.std.proofs.lemmas.Option.{slice_get_within, get_or_from_slice_get, slice_get-get_or}
use Rattle.std.specs.Bool.{Decides}
use Rattle.std.specs.Cmp.{decided, IsEquivalence, IsTotalOrder}
use Rattle.std.specs.List.{IsDistinct}
use Rattle.std.specs.List.Sorted.{IsPermutation}
use Rattle.std.specs.Ordering.{ordering_reverse}
use Rattle.std.specs.declared.cmp.Ordering.{Ordering}
use Rattle.std.specs.declared.cmp.Ordering.TheVariants.{Less}
use Rattle.lemmas.proofs.Bools.{not_both}

pub distinct_tail : {A : Type 0} (x : A) (xs : List A) → AreDistinct (x ∷ xs) → AreDistinct xs
distinct_tail x xs d i j y at_i at_j =
    let e : suc i ≡ suc j = d (suc i) (suc j) y at_i at_j in omega arith

pub head_is_new : {A : Type 0} (x : A) (xs : List A) → AreDistinct (x ∷ xs) → Contains xs x → ⊥
head_is_new x xs d m =
    let p = place_of xs x m in let e : 0 ≡ suc p.0 = d 0 (suc p.0) x refl p.1 in absurd (omega arith)

pub distinct_cons : {A : Type 0} (x : A) (xs : List A) → AreDistinct xs → ¬ (Contains xs x)
    → AreDistinct (x ∷ xs)
distinct_cons x xs d absent zero zero y at_i at_j = refl
distinct_cons x xs d absent zero (suc j) y at_i at_j =
    let e : x ≡ y = cc in absurd (absent (subst (Contains xs) (sym e) (member_at xs j y at_j)))
distinct_cons x xs d absent (suc i) zero y at_i at_j =
    let e : x ≡ y = cc in absurd (absent (subst (Contains xs) (sym e) (member_at xs i y at_i)))
distinct_cons x xs d absent (suc i) (suc j) y at_i at_j = ap suc (d i j y at_i at_j)

pub distinct_append : {A : Type 0} (xs ys : List A) → AreDistinct xs → AreDistinct ys
    → ((z : A) → Contains xs z → Contains ys z → ⊥)
    → AreDistinct (xs ++ ys)
distinct_append [] ys d e apart = e
distinct_append (x ∷ xs) ys d e apart =
    distinct_cons x (xs ++ ys) (distinct_append xs ys (distinct_tail x xs d) e (λ z m n. apart z (contains_later x xs z m) n))
    (λ m. elim (Contains-append_cases xs ys x m) [ inl h ↦ head_is_new x xs d h | inr t ↦ apart x (contains_here x xs) t ])

-- ---- of two lists that have nothing twice together

pub distinct_left : {A : Type 0} (xs ys : List A) → AreDistinct (xs ++ ys) → AreDistinct xs
distinct_left xs ys distinct i j x at_i at_j =
    distinct i j x (get_append xs ys i x at_i) (get_append xs ys j x at_j)

pub distinct_right : {A : Type 0} (xs ys : List A) → AreDistinct (xs ++ ys) → AreDistinct ys
distinct_right xs ys distinct i j x at_i at_j =
    let same = distinct (length xs + i) (length xs + j) x (get_behind xs ys i x at_i) (get_behind xs ys j x at_j) in
    omega (arith, same)

pub distinct_apart : {A : Type 0} (xs ys : List A) (x : A) → AreDistinct (xs ++ ys) → Contains xs x
    → Contains ys x → ⊥
distinct_apart xs ys x distinct first second =
    let a = place_of xs x first in
    let b = place_of ys x second in
    let same = distinct a.0 (length xs + b.0) x (get_append xs ys a.0 x a.1) (get_behind xs ys b.0 x b.1) in
    omega (arith, same, slice_get_within xs a.0 x a.1)

-- ---- members that ascend are distinct

less_apart : {A : Type 0} (cmp : A → A → Ordering) → IsTotalOrder cmp → (x : A) → cmp x x ≡ Less → ⊥
less_apart cmp total x less = less_greater (sym less ∙ total.antisymm x x ∙ ap ordering_reverse less)

pub ascending_distinct : {A : Type 0} (cmp : A → A → Ordering) → IsTotalOrder cmp → (xs : List A)
    → AreAscending cmp xs → AreDistinct xs
ascending_distinct cmp total xs ascends i j x at_i at_j = by (nat_lt i j) refl (nat_lt j i) refl
  where
    by : (a : Bool) → nat_lt i j ≡ a → (b : Bool) → nat_lt j i ≡ b → i ≡ j
    by true lt b e = absurd (less_apart cmp total x (ascends i j x x (ltb-true i j lt) at_i at_j))
    by false ge true lt =
        absurd (less_apart cmp total x (ascends j i x x (ltb-true j i lt) at_j at_i))
    by false ge false le = omega (arith, ltb-false i j ge, ltb-false j i le)

-- ---- members of lists whose members are mapped

pub from_mapped : {A B : Type 0} (f : A → B) (xs : List A) (y : B) → Contains (map f xs) y
    → (x : A) × Contains xs x × (y ≡ f x)
from_mapped f [] y m = absurd (contains_none y m)
from_mapped f (x ∷ xs) y m =
    elim (contains_cases (f x) (map f xs) y m) [
      | inl e ↦ (x, contains_here x xs, sym e)
      | inr n ↦ let r = from_mapped f xs y n in (r.0, contains_later x xs r.0 r.1, r.2)
    ]

pub in_mapped : {A B : Type 0} (f : A → B) (xs : List A) (x : A) → Contains xs x
    → Contains (map f xs) (f x)
in_mapped f [] x m = absurd (contains_none x m)
in_mapped f (y ∷ ys) x m =
    elim (contains_cases y ys x m) [
      | inl e ↦ subst (λ z. Contains (map f (y ∷ ys)) (f z)) e (contains_here (f y) (map f ys))
      | inr n ↦ contains_later (f y) (map f ys) (f x) (in_mapped f ys x n)
    ]

pub distinct_mapped : {A B : Type 0} (f : A → B) → ((x y : A) → f x ≡ f y → x ≡ y) → (xs : List A)
    → AreDistinct xs
    → AreDistinct (map f xs)
distinct_mapped f one [] d = distinct_nil
distinct_mapped f one (x ∷ xs) d =
    distinct_cons (f x) (map f xs) (distinct_mapped f one xs (distinct_tail x xs d)) (λ m.
    let r = from_mapped f xs (f x) m in
    head_is_new x xs d (subst (Contains xs) (sym (one x r.0 r.2)) r.1))

-- ---- distinct members, also after a sort

module _ {A : Type 0} (test : A → A → Bool) (decides : (x y : A) → Decides (test x y) (x ≡ y)) where
  apart_test : (x y : A) → ¬ (x ≡ y) → test x y ≡ false
  apart_test x y other = by (test x y) refl
    where
      by : (b : Bool) → test x y ≡ b → test x y ≡ false
      by true e = absurd (other ((decides x y).0 e))
      by false e = e

  tested : (xs : List A) → AreDistinct xs → IsDistinct test xs
  tested xs d =
      IsDistinct-from_apart test xs
      (λ i j z below within.
      apart_test (get_or xs i z) (get_or xs j z)
      (λ same.
      let i_in : i < length xs = omega (arith, below, within) in
      let e : i ≡ j = d i j (get_or xs j z) (slice_get-get_or xs i z i_in ∙ ap Some same) (slice_get-get_or xs j z within) in
      absurd (omega (arith, below, e))))

  by_test : (xs : List A) → IsDistinct test xs → AreDistinct xs
  by_test xs d i j x at_i at_j =
      elim (cases_lt i j) [
        | inl below ↦ absurd (apart i j at_i at_j below)
        | inr over ↦ elim (cases_lt j i) [ inl below ↦ absurd (apart j i at_j at_i below) | inr under ↦ omega (arith, over, under) ]
      ]
    where
      apart : (i j : ℕ) → slice_get xs i ≡ Some x → slice_get xs j ≡ Some x → i < j → ⊥
      apart i j at_i at_j below =
          let f = apart_from_distinct test xs i j x d below (slice_get_within xs j x at_j) in
          not_both (test x x) ((decides x x).1 refl)
          ((λ k. test (sym (get_or_from_slice_get xs i x x at_i) k) (sym (get_or_from_slice_get xs j x x at_j) k)) ∙ f)

  pub distinct_permuted : (xs ys : List A) → IsPermutation xs ys → AreDistinct xs → AreDistinct ys
  distinct_permuted xs ys p d =
      let same : IsEquivalence test = decided test decides in
      by_test ys (IsDistinct-IsPermutation test same.symm xs ys p (tested xs d))
