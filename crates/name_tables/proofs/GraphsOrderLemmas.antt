-- Numbers in ascending order.
use Rattle.std.proofs.Common.{◌≡◌, ℕ, ◌+◌, ◌-◌, ◌<◌, ◌≤◌, true, false, cond, ◌||◌, ◌==◌, nat_lt, List, [], ◌∷◌, length, refl, sym, ◌∙◌, arith, ◌⊎◌, inl, inr, le-leb, lt-ltb, ltb-true, ltb-false, eqb-true, eq-eqb}
use Rattle.std.specs.Cmp.{first_so, second_so}
use Rattle.std.specs.List.{list_any, list_all}
use Rattle.std.proofs.lemmas.Bool.{and_from, eqb-false, or_cases, or_left, or_right, ne_eqb}
use Rattle.task_model.specs.Fit.{are_places, is_short}
use Rattle.name_tables.specs.Graphs.{ascending, ascending_with}
use Rattle.lemmas.specs.Lists.{has_number}

-- They ascend, from the one number on, and all are below the other.
abbrev pub Ascends : ℕ → ℕ → List ℕ → Type 0
Ascends low high [] = Unit {0}
Ascends low high (n ∷ ns) = (low ≤ n) × (n < high) × Ascends (n + 1) high ns

pub ascends_with : (low high : ℕ) (ns : List ℕ) (n : ℕ) → low ≤ n → n < high → Ascends low high ns
    → Ascends low high (ascending_with ns n)
ascends_with low high [] n le lt a = (le, lt, tt)
ascends_with low high (m ∷ ms) n le lt a =
    elim (nat_lt n m) as (λ b. nat_lt n m ≡ b → Ascends low high (cond b (n ∷ m ∷ ms) (cond (n == m) (m ∷ ms) (m ∷ ascending_with ms n)))) [
      | true ↦ λ before. (le, lt, (let h = ltb-true n m before in omega arith, a.1, a.2))
      | false ↦ λ behind. elim (n == m) as (λ b. (n == m) ≡ b → Ascends low high (cond b (m ∷ ms) (m ∷ ascending_with ms n))) [
        | true ↦ λ _. a
        | false ↦ λ other. (a.0, a.1, ascends_with (m + 1) high ms n (omega (arith, ltb-false n m behind, eqb-false n m other)) lt a.2)
      ] refl
    ] refl

pub ascends_all : (high : ℕ) (so_far ns : List ℕ) → list_all (λ n. nat_lt n high) ns ≡ true
    → Ascends 0 high so_far → Ascends 0 high (ascending so_far ns)
ascends_all high so_far [] e a = a
ascends_all high so_far (n ∷ ns) e a =
    ascends_all high (ascending_with so_far n) ns (second_so (nat_lt n high) (list_all (λ n. nat_lt n high) ns) e)
    (ascends_with 0 high so_far n (omega arith) (ltb-true n high (first_so (nat_lt n high) (list_all (λ n. nat_lt n high) ns) e)) a)

ascends_long : (low high : ℕ) (ns : List ℕ) → Ascends low high ns → length ns ≤ high - low
ascends_long low high [] a = omega arith
ascends_long low high (n ∷ ns) a = omega (arith, ascends_long (n + 1) high ns a.2, a.0, a.1)

ascends_below : (low high : ℕ) (ns : List ℕ) → Ascends low high ns
    → list_all (λ n. nat_lt n high) ns ≡ true
ascends_below low high [] a = refl
ascends_below low high (n ∷ ns) a =
    and_from (nat_lt n high) (list_all (λ n. nat_lt n high) ns) (lt-ltb n high a.1) (ascends_below (n + 1) high ns a.2)

-- ascending places of a list are fit
pub ascends_places : (size : ℕ) (ns : List ℕ) → size ≤ 8388608 → Ascends 0 size ns
    → are_places size ns ≡ true
ascends_places size ns few a =
    and_from (is_short ns) (list_all (λ n. nat_lt n size) ns)
    (le-leb (length ns) 8388608 (omega (arith, ascends_long 0 size ns a))) (ascends_below 0 size ns a)

-- ---- which numbers there are

same_test : (n m : ℕ) → (n == m) ≡ (m == n)
same_test n m =
    elim (n == m) as (λ b. (n == m) ≡ b → b ≡ (m == n)) [
      | true ↦ λ t. sym (eq-eqb m n (sym (eqb-true n m t)))
      | false ↦ λ f. sym (ne_eqb m n (λ e. eqb-false n m f (sym e)))
    ] refl

-- as fit tasks test for numbers
pub number_any : (ns : List ℕ) (n : ℕ) → list_any (λ m. m == n) ns ≡ has_number ns n
number_any [] n = refl
number_any (m ∷ ms) n = λ i. same_test m n i || number_any ms n i

pub in_with : (ns : List ℕ) (n b : ℕ) → has_number (ascending_with ns n) b ≡ true
    → (b ≡ n) ⊎ (has_number ns b ≡ true)
in_with [] n b h =
    elim (or_cases (b == n) false h) [ inl e ↦ inl (eqb-true b n e) | inr e ↦ absurd (cc) ]
in_with (m ∷ ms) n b h =
    elim (nat_lt n m) as (λ c.
    has_number (cond c (n ∷ m ∷ ms) (cond (n == m) (m ∷ ms) (m ∷ ascending_with ms n))) b ≡ true
    → (b ≡ n) ⊎ (has_number (m ∷ ms) b ≡ true)) [
      | true ↦ λ g. elim (or_cases (b == n) (has_number (m ∷ ms) b) g) [ inl e ↦ inl (eqb-true b n e) | inr e ↦ inr e ]
      | false ↦ λ g. elim (n == m) as
          (λ c. has_number (cond c (m ∷ ms) (m ∷ ascending_with ms n)) b ≡ true → (b ≡ n) ⊎ (has_number (m ∷ ms) b ≡ true)) [
            | true ↦ λ f. inr f
            | false ↦ λ f.
                elim (or_cases (b == m) (has_number (ascending_with ms n) b) f) [
                  | inl e ↦ inr (or_left (b == m) (has_number ms b) e)
                  | inr e ↦ elim (in_with ms n b e) [ inl k ↦ inl k | inr k ↦ inr (or_right (b == m) (has_number ms b) k) ]
                ]
          ] g
    ] h

pub with_in : (ns : List ℕ) (n b : ℕ) → (b ≡ n) ⊎ (has_number ns b ≡ true)
    → has_number (ascending_with ns n) b ≡ true
with_in [] n b (inl e) = or_left (b == n) false (eq-eqb b n e)
with_in [] n b (inr e) = absurd (cc)
with_in (m ∷ ms) n b h =
    elim (nat_lt n m) as (λ c. has_number (cond c (n ∷ m ∷ ms) (cond (n == m) (m ∷ ms) (m ∷ ascending_with ms n))) b ≡ true) [
      | true ↦ elim h
          [ inl e ↦ or_left (b == n) (has_number (m ∷ ms) b) (eq-eqb b n e) | inr e ↦ or_right (b == n) (has_number (m ∷ ms) b) e ]
      | false ↦ elim (n == m) as (λ c. (n == m) ≡ c → has_number (cond c (m ∷ ms) (m ∷ ascending_with ms n)) b ≡ true) [
        | true ↦ λ same. elim h [ inl e ↦ or_left (b == m) (has_number ms b) (eq-eqb b m (e ∙ eqb-true n m same)) | inr e ↦ e ]
        | false ↦ λ _. elim h [
          | inl e ↦ or_right (b == m) (has_number (ascending_with ms n) b) (with_in ms n b (inl e))
          | inr e ↦ elim (or_cases (b == m) (has_number ms b) e) [
            | inl k ↦ or_left (b == m) (has_number (ascending_with ms n) b) k
            | inr k ↦ or_right (b == m) (has_number (ascending_with ms n) b) (with_in ms n b (inr k))
          ]
        ]
      ] refl
    ]

-- the numbers of an ascending list are those so far and the added ones
pub in_ascending : (so_far ns : List ℕ) (b : ℕ) → has_number (ascending so_far ns) b ≡ true
    → (has_number so_far b ≡ true) ⊎ (has_number ns b ≡ true)
in_ascending so_far [] b h = inl h
in_ascending so_far (n ∷ ns) b h =
    elim (in_ascending (ascending_with so_far n) ns b h) [
      | inl e ↦ elim (in_with so_far n b e) [ inl k ↦ inr (or_left (b == n) (has_number ns b) (eq-eqb b n k)) | inr k ↦ inl k ]
      | inr e ↦ inr (or_right (b == n) (has_number ns b) e)
    ]

pub ascending_in : (so_far ns : List ℕ) (b : ℕ)
    → (has_number so_far b ≡ true) ⊎ (has_number ns b ≡ true)
    → has_number (ascending so_far ns) b ≡ true
ascending_in so_far [] b (inl e) = e
ascending_in so_far [] b (inr e) = absurd (cc)
ascending_in so_far (n ∷ ns) b (inl e) =
    ascending_in (ascending_with so_far n) ns b (inl (with_in so_far n b (inr e)))
ascending_in so_far (n ∷ ns) b (inr e) =
    elim (or_cases (b == n) (has_number ns b) e) [
      | inl k ↦ ascending_in (ascending_with so_far n) ns b (inl (with_in so_far n b (inl (eqb-true b n k))))
      | inr k ↦ ascending_in (ascending_with so_far n) ns b (inr k)
    ]
