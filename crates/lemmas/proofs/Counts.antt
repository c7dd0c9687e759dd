-- How many members pass a test.
use Rattle.std.proofs.Common.{◌≡◌, ℕ, zero, suc, ◌+◌, ◌≤◌, ◌<◌, Bool, true, cond, List, [], ◌∷◌, ◌++◌, length, take, Some, slice_get, count_by, refl, ap, subst, ◌∙◌, arith, zero-add}
use Rattle.std.proofs.Math.Seq.{take-length}
use Rattle.std.proofs.lemmas.List.Sums.{sum_by-append}
use Rattle.std.proofs.lemmas.Option.{slice_get_within}

pub count_joined : {A : Type 0} (p : A → Bool) (xs ys : List A)
    → count_by p (xs ++ ys) ≡ count_by p xs + count_by p ys
count_joined p xs ys = sum_by-append (λ y. cond (p y) 1 0) xs ys

pub count_one : {A : Type 0} (p : A → Bool) (x : A) → count_by p (x ∷ []) ≡ cond (p x) 1 0
count_one p x = zero-add (cond (p x) 1 0)

-- the first member is counted, and then the others
pub count_head : {A : Type 0} (p : A → Bool) (x : A) (xs : List A)
    → count_by p (x ∷ xs) ≡ cond (p x) 1 0 + count_by p xs
count_head p x xs = count_joined p (x ∷ []) xs ∙ ap (λ n. n + count_by p xs) (count_one p x)

pub count_last : {A : Type 0} (p : A → Bool) (xs : List A) (x : A)
    → count_by p (xs ++ x ∷ []) ≡ count_by p xs + cond (p x) 1 0
count_last p xs x = count_joined p xs (x ∷ []) ∙ ap (λ n. count_by p xs + n) (count_one p x)

pub count_front : {A : Type 0} (p : A → Bool) (xs : List A) (k : ℕ) → count_by p (take k xs) ≤ count_by p xs
count_front p xs zero = omega arith
count_front p [] (suc k) = omega arith
count_front p (x ∷ xs) (suc k) =
    omega (arith, count_head p x (take k xs), count_head p x xs, count_front p xs k)

-- a member that passes counts from its place on
pub count_passes : {A : Type 0} (p : A → Bool) (xs : List A) (j k : ℕ) (x : A) → j < k → slice_get xs j ≡ Some x
    → p x ≡ true
    → count_by p (take j xs) + 1 ≤ count_by p (take k xs)
count_passes p [] j k x lt at passes = absurd (cc)
count_passes p (y ∷ ys) j zero x lt at passes = absurd (omega (arith, lt))
count_passes p (y ∷ ys) zero (suc k) x lt at passes =
    let same : y ≡ x = cc in
    let one : cond {A = ℕ} (p y) 1 0 ≡ 1 = ap (λ b. cond {A = ℕ} b 1 0) (ap p same ∙ passes) in
    let none : count_by p (take 0 (y ∷ ys)) ≡ 0 = refl in
    omega (arith, count_head p y (take k ys), one, none)
count_passes p (y ∷ ys) (suc j) (suc k) x lt at passes =
    omega (arith, count_head p y (take j ys), count_head p y (take k ys), count_passes p ys j k x (omega (arith, lt)) at passes)

pub count_whole : {A : Type 0} (p : A → Bool) (xs : List A) (j : ℕ) (x : A) → slice_get xs j ≡ Some x → p x ≡ true
    → count_by p (take j xs) + 1 ≤ count_by p xs
count_whole p xs j x at passes =
    subst (λ ys. count_by p (take j xs) + 1 ≤ count_by p ys)
    (take-length xs) (count_passes p xs j (length xs) x (slice_get_within xs j x at) at passes)
