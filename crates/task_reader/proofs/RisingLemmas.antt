-- Ascending numbers: a list of them is known by its members.
use Rattle.std.proofs.Common.{◌≡◌, ℕ, ◌+◌, ◌≤◌, true, false, cond, ◌==◌, nat_lt, List, [], ◌∷◌, refl, subst, sym, arith, inl, inr, ltb-true, ltb-false, eqb-true, eq-eqb}
use Rattle.std.proofs.lemmas.Bool.{eqb-false, or_cases, or_left, or_right}
use Rattle.name_tables.proofs.GraphsOrderLemmas.{ascending_in, in_ascending}
use Rattle.name_tables.specs.Graphs.{ascending, ascending_with}
use Rattle.lemmas.specs.Lists.{has_number}
use Rattle.name_tables.proofs.GraphsLemmas.{no_number}

-- they ascend, from this number on
abbrev pub Rises : ℕ → List ℕ → Type 0
Rises low [] = Unit {0}
Rises low (n ∷ ns) = (low ≤ n) × Rises (n + 1) ns

rises_with : (low : ℕ) (ns : List ℕ) (n : ℕ) → low ≤ n → Rises low ns
    → Rises low (ascending_with ns n)
rises_with low [] n le r = (le, tt)
rises_with low (m ∷ ms) n le r =
    elim (nat_lt n m) as (λ b. nat_lt n m ≡ b → Rises low (cond b (n ∷ m ∷ ms) (cond (n == m) (m ∷ ms) (m ∷ ascending_with ms n)))) [
      | true ↦ λ before. (le, (let h = ltb-true n m before in omega arith, r.1))
      | false ↦ λ behind. elim (n == m) as (λ b. (n == m) ≡ b → Rises low (cond b (m ∷ ms) (m ∷ ascending_with ms n))) [
        | true ↦ λ _. r
        | false ↦ λ other. (r.0, rises_with (m + 1) ms n (omega (arith, ltb-false n m behind, eqb-false n m other)) r.1)
      ] refl
    ] refl

pub rises_all : (so_far ns : List ℕ) → Rises 0 so_far → Rises 0 (ascending so_far ns)
rises_all so_far [] r = r
rises_all so_far (n ∷ ns) r =
    rises_all (ascending_with so_far n) ns (rises_with 0 so_far n (omega arith) r)

from_low : (low : ℕ) (ns : List ℕ) (b : ℕ) → Rises low ns → has_number ns b ≡ true → low ≤ b
from_low low [] b r h = absurd (cc)
from_low low (n ∷ ns) b r h = elim (or_cases (b == n) (has_number ns b) h) [
  | inl e ↦ omega (arith, eqb-true b n e, r.0)
  | inr e ↦ omega (arith, from_low (n + 1) ns b r.1 e, r.0)
]

-- the first of two such lists with the same members is one
same_first : (low n m : ℕ) (ns ms : List ℕ) → Rises low (n ∷ ns) → Rises low (m ∷ ms)
    → has_number (m ∷ ms) n ≡ true
    → has_number (n ∷ ns) m ≡ true → n ≡ m
same_first low n m ns ms r s there here = elim (or_cases (n == m) (has_number ms n) there) [
  | inl e ↦ eqb-true n m e
  | inr later ↦ elim (or_cases (m == n) (has_number ns m) here) [
    | inl e ↦ sym (eqb-true m n e)
    | inr behind ↦ absurd (omega (arith, from_low (m + 1) ms n s.1 later, from_low (n + 1) ns m r.1 behind))
  ]
]

-- a member that comes behind the first is one of the others
behind_first : (n m : ℕ) (ns ms : List ℕ) (b : ℕ) → n ≡ m → Rises (n + 1) ns
    → has_number ns b ≡ true → has_number (m ∷ ms) b ≡ true
    → has_number ms b ≡ true
behind_first n m ns ms b same r h there = elim (or_cases (b == m) (has_number ms b) there) [
  | inl e ↦ absurd (omega (arith, from_low (n + 1) ns b r h, eqb-true b m e, same))
  | inr e ↦ e
]

pub one_rise : (low : ℕ) (ns ms : List ℕ) → Rises low ns → Rises low ms
    → ((b : ℕ) → has_number ns b ≡ true → has_number ms b ≡ true)
    → ((b : ℕ) → has_number ms b ≡ true → has_number ns b ≡ true) → ns ≡ ms
one_rise low [] [] r s to from = refl
one_rise low [] (m ∷ ms) r s to from =
    absurd (let bad = from m (or_left (m == m) (has_number ms m) (eq-eqb m m refl)) in cc)
one_rise low (n ∷ ns) [] r s to from =
    absurd (let bad = to n (or_left (n == n) (has_number ns n) (eq-eqb n n refl)) in cc)
one_rise low (n ∷ ns) (m ∷ ms) r s to from =
    let there = to n (or_left (n == n) (has_number ns n) (eq-eqb n n refl)) in
    let here = from m (or_left (m == m) (has_number ms m) (eq-eqb m m refl)) in
    let same : n ≡ m = same_first low n m ns ms r s there here in
    let rest = one_rise (n + 1) ns ms r.1 (subst (λ k. Rises (k + 1) ms) (sym same) s.1)
    (λ b h. behind_first n m ns ms b same r.1 h (to b (or_right (b == n) (has_number ns b) h)))
    (λ b h. behind_first m n ms ns b (sym same) s.1 h (from b (or_right (b == m) (has_number ms b) h))) in
    λ i. same i ∷ rest i

-- the numbers of two lists with the same members, ascending
pub one_ascending : (ns ms : List ℕ) → ((b : ℕ) → has_number ns b ≡ true → has_number ms b ≡ true)
    → ((b : ℕ) → has_number ms b ≡ true → has_number ns b ≡ true) → ascending [] ns ≡ ascending [] ms
one_ascending ns ms to from =
    one_rise 0 (ascending [] ns) (ascending [] ms) (rises_all [] ns tt) (rises_all [] ms tt) (along ns ms to) (along ms ns from)
  where
    along : (xs ys : List ℕ) → ((b : ℕ) → has_number xs b ≡ true → has_number ys b ≡ true) → (b : ℕ)
        → has_number (ascending [] xs) b ≡ true
        → has_number (ascending [] ys) b ≡ true
    along xs ys f b h = elim (in_ascending [] xs b h) [ inl e ↦ absurd (no_number b e) | inr e ↦ ascending_in [] ys b (inr (f b e)) ]
