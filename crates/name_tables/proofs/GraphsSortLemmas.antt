-- Numbers that were sorted, each once, are the ascending ones.
use Rattle.std.proofs.Common.{◌≡◌, ℕ, true, false, cond, ◌==◌, nat_lt, List, [], ◌∷◌, ◌++◌, refl, sym, ◌∙◌, arith, inl, inr, Contains, ltb-true, ltb-false, eqb-true}
use Rattle.std.specs.List.{AllByRecursion, dedup}
use Rattle.std.specs.List.Sorted.{IsPermutation, IsSorted, IsStrictlySortedBy}
use Rattle.std.specs.Bool.{nat_eq}
use Rattle.std.specs.Ordering.{nat_cmp}
use Rattle.std.specs.Cmp.{unsigned_ties, nat_eq_equiv, nat_cmp_is}
use Rattle.std.specs.declared.cmp.Ordering.TheVariants.{Less}
use Rattle.std.proofs.lemmas.Bool.{eqb-false}
use Rattle.std.proofs.lemmas.Cmp.{nat_cmp_total}
use Rattle.std.proofs.lemmas.List.Kept.{Contains-dedup_nat, Contains-from_dedup, IsStrictlySortedBy-dedup}
use Rattle.std.proofs.lemmas.List.Sorted.{list_any-IsPermutation}
use Rattle.std.proofs.lemmas.Map.Views.{Contains-from_any, list_any-from_Contains}
use Rattle.lemmas.proofs.Ascending.{ascending as places_ascend, same_list}
use Rattle.lemmas.specs.Lists.{has_number}
use Rattle.name_tables.specs.Graphs.{ascending, ascending_with}
use Rattle.name_tables.proofs.GraphsOrderLemmas.{ascending_in, in_ascending}

-- ---- one number more

pub ascending_push : (so_far ns : List ℕ) (n : ℕ)
    → ascending so_far (ns ++ n ∷ []) ≡ ascending_with (ascending so_far ns) n
ascending_push so_far [] n = refl
ascending_push so_far (m ∷ ms) n = ascending_push (ascending_with so_far m) ms n

-- ---- strictly ascending

all_with : (P : ℕ → Type 0) (ns : List ℕ) (n : ℕ) → AllByRecursion P ns → P n
    → AllByRecursion P (ascending_with ns n)
all_with P [] n all here = (here, tt)
all_with P (m ∷ ms) n all here =
    elim (nat_lt n m) as (λ b. AllByRecursion P (cond b (n ∷ m ∷ ms) (cond (n == m) (m ∷ ms) (m ∷ ascending_with ms n)))) [
      | true ↦ (here, all)
      | false ↦ elim (n == m) as (λ b. AllByRecursion P (cond b (m ∷ ms) (m ∷ ascending_with ms n))) [
        | true ↦ all
        | false ↦ (all.0, all_with P ms n all.1 here)
      ]
    ]

all_above : (n m : ℕ) (ms : List ℕ) → nat_cmp n m ≡ Less
    → AllByRecursion (λ k. nat_cmp m k ≡ Less) ms → AllByRecursion (λ k. nat_cmp n k ≡ Less) ms
all_above n m [] first all = tt
all_above n m (k ∷ ks) first all =
    (nat_cmp_total.trans n m k first all.0, all_above n m ks first all.1)

strict_with : (ns : List ℕ) (n : ℕ) → IsStrictlySortedBy nat_cmp ns
    → IsStrictlySortedBy nat_cmp (ascending_with ns n)
unfolding IsStrictlySortedBy
strict_with [] n s = (tt, tt)
strict_with (m ∷ ms) n s =
    elim (nat_lt n m) as (λ b. nat_lt n m ≡ b
    → IsStrictlySortedBy nat_cmp (cond b (n ∷ m ∷ ms) (cond (n == m) (m ∷ ms) (m ∷ ascending_with ms n)))) [
      | true ↦ λ before.
          let first = sym (nat_cmp_is n m Less (ltb-true n m before)) in ((first, all_above n m ms first s.0), s)
      | false ↦ λ behind. elim (n == m) as (λ b. (n == m) ≡ b → IsStrictlySortedBy nat_cmp (cond b (m ∷ ms) (m ∷ ascending_with ms n))) [
        | true ↦ λ _. s
        | false ↦ λ other.
            let above = sym (nat_cmp_is m n Less (omega (arith, ltb-false n m behind, eqb-false n m other))) in
            (all_with (λ k. nat_cmp m k ≡ Less) ms n s.0 above, strict_with ms n s.1)
      ] refl
    ] refl

strict_all : (so_far ns : List ℕ) → IsStrictlySortedBy nat_cmp so_far
    → IsStrictlySortedBy nat_cmp (ascending so_far ns)
strict_all so_far [] s = s
strict_all so_far (n ∷ ns) s = strict_all (ascending_with so_far n) ns (strict_with so_far n s)

none_strict : IsStrictlySortedBy nat_cmp []
unfolding IsStrictlySortedBy
none_strict = tt

-- ---- members

contained : (ns : List ℕ) (n : ℕ) → has_number ns n ≡ true → Contains ns n
contained ns n e = Contains-from_any eqb-true n ns e

numbered : (ns : List ℕ) (n : ℕ) → Contains ns n → has_number ns n ≡ true
numbered ns n c = list_any-from_Contains nat_eq_equiv n ns c

module _ (ns sorted : List ℕ) (moved : IsPermutation ns sorted) where
  same : (n : ℕ) → has_number ns n ≡ has_number sorted n
  same n = list_any-IsPermutation (λ m. n == m) ns sorted moved

  there : (n : ℕ) → Contains (dedup nat_eq sorted) n → Contains (ascending [] ns) n
  there n c =
      contained (ascending [] ns) n
      (ascending_in [] ns n (inr (same n ∙ numbered sorted n (Contains-from_dedup nat_eq sorted n c))))

  back : (n : ℕ) → Contains (ascending [] ns) n → Contains (dedup nat_eq sorted) n
  back n c =
      elim (in_ascending [] ns n (numbered (ascending [] ns) n c)) [
        | inl e ↦ absurd (cc)
        | inr e ↦ Contains-dedup_nat sorted n (contained sorted n (sym (same n) ∙ e))
      ]

  -- sorted, each once
  pub sorted_ascending : IsSorted nat_cmp sorted → dedup nat_eq sorted ≡ ascending [] ns
  sorted_ascending up =
      same_list nat_cmp nat_cmp_total (dedup nat_eq sorted) (ascending [] ns)
      (places_ascend nat_cmp (dedup nat_eq sorted) (IsStrictlySortedBy-dedup nat_cmp_total unsigned_ties sorted up))
      (places_ascend nat_cmp (ascending [] ns) (strict_all [] ns none_strict))
      there back
