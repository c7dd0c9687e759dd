-- Names of objects, and places among them.
use Rattle.std.proofs.Common.{◌≡◌, ℕ, ◌<◌, List, [], ◌∷◌, length, refl, arith, All, sym, subst}
use Rattle.std.proofs.lemmas.List.Elements.{All-cons, All-nil}

pub some_there : {A : Type 0} (xs : List A) → (xs ≡ [] → ⊥) → 0 < length xs
some_there [] some = absurd (some refl)
some_there (x ∷ xs) some = omega arith

-- two objects that are within
pub two_within : (names : List (List ℕ)) (object : ℕ) (objects : List ℕ)
    → objects ≡ object ∷ object ∷ [] → object < length names
    → All (λ o. o < length names) objects
two_within names object objects e h =
    let P : List ℕ → Type 0 = λ os. All (λ o. o < length names) os in
    subst P (sym e) (All-cons (λ o. o < length names) object
    (object ∷ []) h (All-cons (λ o. o < length names) object [] h (All-nil (λ o. o < length names))))
