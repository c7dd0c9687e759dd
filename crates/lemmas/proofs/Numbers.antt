-- Numbers, and numbers in a row.
use Rattle.std.proofs.Common.{◌≡◌, ℕ, zero, suc, ◌+◌, ◌-◌, ◌*◌, ◌^◌, ◌<◌, ◌≤◌, ◌⊎◌, inl, inr, Bool, true, false, ◌||◌, ◌==◌, map, length, get_or, refl, ap, ◌∙◌, subst, arith, eqb-true, [], ◌∷◌, ◌++◌, nat_lt, nat_le}
use Rattle.std.proofs.Math.Nat.{add_comm, suc-mul}
use Rattle.std.proofs.lemmas.Bool.{eqb-false, and_from}
use Rattle.std.specs.List.{list_any, list_all}
use Rattle.std.proofs.lemmas.Bool.Decides.{nat_tests}
use Rattle.lemmas.specs.Lists.{numbers_from}

pub zero_suc : (n : ℕ) → 0 ≡ suc n → ⊥
zero_suc n e = omega (arith, e)

pub suc_same : (m j : ℕ) → suc m ≡ suc j → m ≡ j
suc_same m j e = omega (arith, e)

pub suc_minus_one : (n : ℕ) → suc n - 1 ≡ n
suc_minus_one n = omega arith

pub plus_zero : (base : ℕ) → base + 0 ≡ base
plus_zero base = omega arith

pub enough_next : (width bars size : ℕ) → 0 < bars → width + bars * width ≤ size
    → width + (bars - 1) * width ≤ size - width
enough_next width zero size lt enough = absurd (omega arith)
enough_next width (suc bars) size lt enough =
    rw (suc_minus_one bars)
    (next (bars * width) (subst (λ t. width + t ≤ size) (suc-mul bars width ∙ add_comm (bars * width) width) enough))
  where
    next : (others : ℕ) → width + (width + others) ≤ size → width + others ≤ size - width
    next others all = omega arith

pub small_version : (version : ℕ) → (version ≡ 1) ⊎ (version ≡ 2) → version < 2 ^ 64
small_version version (inl e) = omega (arith, e)
small_version version (inr e) = omega (arith, e)

pub length-numbers_from : (first n : ℕ) → length (numbers_from first n) ≡ n
length-numbers_from first zero = refl
length-numbers_from first (suc n) = ap suc (length-numbers_from (first + 1) n)

pub get-map-numbers : {B : Type 0} (f : ℕ → B) (first n k : ℕ) (d : B) → k < n
    → get_or (map f (numbers_from first n)) k d ≡ f (first + k)
get-map-numbers f first zero k d h = absurd (omega arith)
get-map-numbers f first (suc n) zero d h = ap f (omega arith)
get-map-numbers f first (suc n) (suc k) d h =
    get-map-numbers f (first + 1) n k d (omega arith) ∙ ap f (omega arith)

pub in_numbers : (first count n : ℕ) → first ≤ n → n < first + count
    → list_any (λ slot. slot == n) (numbers_from first count) ≡ true
in_numbers first zero n low high = absurd (omega arith)
in_numbers first (suc count) n low high =
    elim (first == n) as (λ b. (first == n) ≡ b → (b || list_any (λ slot. slot == n) (numbers_from (first + 1) count)) ≡ true) [
      | true ↦ λ _. refl
      | false ↦ λ f. in_numbers (first + 1) count n (omega (arith, eqb-false first n f)) (omega arith)
    ] refl

pub all_numbers : (p : ℕ → Bool) (first count : ℕ)
    → ((n : ℕ) → first ≤ n → n < first + count → p n ≡ true)
    → list_all p (numbers_from first count) ≡ true
all_numbers p first zero each = refl
all_numbers p first (suc count) each =
    and_from (p first) (list_all p (numbers_from (first + 1) count))
    (each first (omega arith) (omega arith)) (all_numbers p (first + 1) count (λ n low high. each n (omega arith) (omega arith)))

pub below_in_numbers : (first n k : ℕ) → list_any (λ slot. slot == k) (numbers_from first n) ≡ true
    → k < first + n
below_in_numbers first zero k e = absurd (cc)
below_in_numbers first (suc n) k e =
    elim (first == k) as
    (λ b. (first == k) ≡ b → (b || list_any (λ slot. slot == k) (numbers_from (first + 1) n)) ≡ true → k < first + suc n) [
      | true ↦ λ same _. omega (arith, eqb-true first k same)
      | false ↦ λ _ rest. omega (arith, below_in_numbers (first + 1) n k rest)
    ] refl e

pub numbers_suc : (first n : ℕ)
    → numbers_from first (suc n) ≡ numbers_from first n ++ (first + n) ∷ []
numbers_suc first zero = let same : first ≡ first + 0 = omega arith in ap (λ k. k ∷ []) same
numbers_suc first (suc n) =
    let same : first + 1 + n ≡ first + suc n = omega arith in
    ap (λ ks. first ∷ ks) (numbers_suc (first + 1) n ∙ ap (λ k. numbers_from (first + 1) n ++ k ∷ []) same)

pub numbers_more : (first n : ℕ)
    → numbers_from first (n + 1) ≡ numbers_from first n ++ (first + n) ∷ []
numbers_more first n =
    let next : n + 1 ≡ suc n = omega arith in ap (numbers_from first) next ∙ numbers_suc first n

pub le_test : (m n : ℕ) → m ≤ n → nat_le m n ≡ true
le_test m n h = grind (arith, nat_tests, h)

pub lt_told : (m n : ℕ) → nat_lt m n ≡ true → m < n
lt_told m n e = grind (arith, nat_tests, e)
