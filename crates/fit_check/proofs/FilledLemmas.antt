-- Flags that are up, and the slots that they stand for.
use Rattle.std.proofs.Common.{◌≡◌, ◌≢◌, inl, inr, get_or-set_same, get_or-set_other, ℕ, zero, suc, ◌+◌, ◌<◌, ◌≤◌, Bool, true, false, ◌||◌, ◌==◌, List, [], ◌∷◌, ◌++◌, length, get_or, set, replicate, refl, sym, ap, ◌∙◌, arith}
use Rattle.std.specs.List.{list_any}
use Rattle.lemmas.specs.Lists.{numbers_from}
use Rattle.fit_check.specs.Filled.{places_up}
use Rattle.std.proofs.lemmas.Bool.{eq-eqb, ne_eqb, cases_eq, cases_lt}
use Rattle.std.proofs.lemmas.List.Folds.{list_any-append}
use Rattle.lemmas.proofs.Numbers.{in_numbers}

-- ---- which numbers are there

below_none : (n k : ℕ) (flags : List Bool) → k < n
    → list_any (λ slot. slot == k) (places_up n flags) ≡ false
below_none n k [] h = refl
below_none n k (true ∷ flags) h =
    ap (λ b. b || list_any (λ slot. slot == k) (places_up (n + 1) flags)) (ne_eqb n k (λ e. omega arith))
    ∙ below_none (n + 1) k flags (omega arith)
below_none n k (false ∷ flags) h = below_none (n + 1) k flags (omega arith)

there : (n k : ℕ) (flags : List Bool)
    → list_any (λ slot. slot == n + k) (places_up n flags) ≡ get_or flags k false
there n k [] = refl
there n zero (true ∷ flags) = ap (λ b. b || list_any (λ slot. slot == n + 0) (places_up (n + 1) flags)) (eq-eqb n (n + 0) (omega arith))
there n zero (false ∷ flags) = below_none (n + 1) (n + 0) flags (omega arith)
there n (suc k) (true ∷ flags) =
    let next : n + suc k ≡ (n + 1) + k = omega arith in
    ap (λ b. b || list_any (λ slot. slot == n + suc k) (places_up (n + 1) flags)) (ne_eqb n (n + suc k) (λ e. omega arith))
    ∙ ap (λ m. list_any (λ slot. slot == m) (places_up (n + 1) flags)) next ∙ there (n + 1) k flags
there n (suc k) (false ∷ flags) =
    let next : n + suc k ≡ (n + 1) + k = omega arith in
    ap (λ m. list_any (λ slot. slot == m) (places_up (n + 1) flags)) next ∙ there (n + 1) k flags

-- a slot has a value where its flag is up
pub flag_at : (flags : List Bool) (k : ℕ)
    → list_any (λ slot. slot == k) (places_up 0 flags) ≡ get_or flags k false
flag_at flags k =
    ap (λ m. list_any (λ slot. slot == m) (places_up 0 flags)) (omega arith) ∙ there 0 k flags

-- ---- the first slots

pub nothing_up : (n m : ℕ) → places_up n (replicate m false) ≡ []
nothing_up n zero = refl
nothing_up n (suc m) = nothing_up (n + 1) m

pub first_up : (n count rest : ℕ)
    → places_up n (replicate count true ++ replicate rest false) ≡ numbers_from n count
first_up n zero rest = nothing_up n rest
first_up n (suc count) rest = ap (λ ns. n ∷ ns) (first_up (n + 1) count rest)

pub next_up : (count rest : ℕ)
    → set (replicate count true ++ replicate (suc rest) false) count true ≡ replicate (suc count) true ++ replicate rest false
next_up zero rest = refl
next_up (suc count) rest = ap (λ bs. true ∷ bs) (next_up count rest)

-- ---- slots that are added

pub not_in_numbers : (first count n : ℕ) → (first ≤ n → first + count ≤ n)
    → list_any (λ slot. slot == n) (numbers_from first count) ≡ false
not_in_numbers first zero n out = refl
not_in_numbers first (suc count) n out =
    ap (λ b. b || list_any (λ slot. slot == n) (numbers_from (first + 1) count))
    (ne_eqb first n (λ e. absurd (omega (arith, out (omega arith)))))
    ∙ not_in_numbers (first + 1) count n (λ h. omega (arith, out (omega arith)))

-- ---- flags that are put up one after another

pub flag_set : (flags : List Bool) (k n : ℕ) → (n < k → get_or flags n false ≡ true) → n < k + 1
    → k < length flags
    → get_or (set flags k true) n false ≡ true
flag_set flags k n before high inside =
    elim (cases_eq n k) [
      | inl e ↦ ap (λ m. get_or (set flags k true) m false) e ∙ get_or-set_same flags k true false inside
      | inr ne ↦ get_or-set_other flags k n true false ne ∙ before (omega (arith, ne))
    ]

pub flag_kept : (flags : List Bool) (k n : ℕ) → n ≢ k
    → get_or (set flags k true) n false ≡ get_or flags n false
flag_kept flags k n ne = get_or-set_other flags k n true false ne

-- the flags from the first on, so many, and those that were up
pub flags_with : (new old : List Bool) (first count n : ℕ)
    → (first ≤ n → n < first + count → get_or new n false ≡ true)
    → ((first ≤ n → first + count ≤ n) → get_or new n false ≡ get_or old n false)
    → get_or new n false ≡ list_any (λ slot. slot == n) (numbers_from first count ++ places_up 0 old)
flags_with new old first count n up kept =
    elim (cases_lt n first) [
      | inl low ↦ out (λ h. absurd (omega arith))
      | inr high ↦
          elim (cases_lt n (first + count)) [
            | inl inside ↦
                up high inside
                ∙ sym (list_any-append (λ slot. slot == n) (numbers_from first count) (places_up 0 old)
                ∙ ap (λ b. b || list_any (λ slot. slot == n) (places_up 0 old)) (in_numbers first count n high inside))
            | inr past ↦ out (λ _. past)
          ]
    ]
  where
    out : (first ≤ n → first + count ≤ n)
        → get_or new n false ≡ list_any (λ slot. slot == n) (numbers_from first count ++ places_up 0 old)
    out o =
        kept o ∙ sym (flag_at old n)
        ∙ sym (list_any-append (λ slot. slot == n) (numbers_from first count) (places_up 0 old)
        ∙ ap (λ b. b || list_any (λ slot. slot == n) (places_up 0 old)) (not_in_numbers first count n o))
