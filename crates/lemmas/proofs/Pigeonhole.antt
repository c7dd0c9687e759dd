-- Distinct members of a list are no more than it has.
use Rattle.std.proofs.Common.{◌≡◌, ◌≢◌, ℕ, zero, suc, ◌+◌, ◌<◌, ◌≤◌, List, [], ◌∷◌, length, refl, sym, ap, subst, arith, Some, slice_get, Contains}
use Rattle.std.proofs.lemmas.Option.{slice_get_within, same_Some}
use Rattle.lemmas.proofs.Ascending.{contains_here, contains_later}
use Rattle.lemmas.proofs.Members.{member_at, place_of}
use Rattle.lemmas.proofs.Numbers.{zero_suc, suc_same}
use Rattle.lemmas.proofs.ListTests.{one_there}
use Rattle.lemmas.specs.Lists.{AreDistinct}

-- ---- a list without one of its places

abbrev without : {A : Type 0} → ℕ → List A → List A
without n [] = []
without zero (y ∷ ys) = ys
without (suc n) (y ∷ ys) = y ∷ without n ys

length-without : {A : Type 0} (n : ℕ) (ys : List A) → n < length ys
    → length ys ≡ length (without n ys) + 1
length-without n [] h = absurd (omega arith)
length-without zero (y ∷ ys) h = omega arith
length-without (suc n) (y ∷ ys) h = omega (arith, length-without n ys (omega arith))

stays : {A : Type 0} (n j : ℕ) (ys : List A) (y : A) → j ≢ n → slice_get ys j ≡ Some y
    → Contains (without n ys) y
stays n j [] y other e = absurd (cc)
stays zero zero (z ∷ zs) y other e = absurd (other refl)
stays zero (suc j) (z ∷ zs) y other e = member_at zs j y e
stays (suc n) zero (z ∷ zs) y other e = subst (λ w. Contains (w ∷ without n zs) y) (sym (same_Some z y e)) (contains_here y (without n zs))
stays (suc n) (suc j) (z ∷ zs) y other e =
    contains_later z (without n zs) y (stays n j zs y (λ same. other (ap suc same)) e)

pub pigeons : {A : Type 0} (xs ys : List A) → AreDistinct xs
    → ((x : A) → Contains xs x → Contains ys x) → length xs ≤ length ys
pigeons [] ys distinct inside = omega arith
pigeons {A} (x ∷ xs) ys distinct inside =
    let at = place_of ys x (inside x (contains_here x xs)) in
    let fewer = length-without at.0 ys (slice_get_within ys at.0 x at.1) in
    let rest = pigeons xs (without at.0 ys) (λ i j y e f. suc_same i j (distinct (suc i) (suc j) y e f)) (λ y c.
    let place = place_of xs y c in
    let found = place_of ys y (inside y (contains_later x xs y c)) in
    stays at.0 found.0 ys y (λ same.
    absurd (zero_suc place.0 (distinct 0 (suc place.0) y
    (ap Some (one_there ys at.0 x y at.1 (subst (λ n. slice_get ys n ≡ Some y) same found.1))) place.1))) found.1) in
    omega arith
