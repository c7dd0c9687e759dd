-- Lists walked from the front: what is left to see of a test of all, of some, or of pairs.
use Rattle.std.proofs.Common.{◌≡◌, ◌≢◌, ℕ, zero, suc, ◌<◌, Bool, true, false, ◌&&◌, ◌||◌, List, [], ◌∷◌, length, drop, get_or, refl, ap, arith, Some, slice_get}
use Rattle.std.specs.List.{list_any, list_all}
use Rattle.std.proofs.lemmas.Option.{same_Some}
use Rattle.task_model.proofs.TruthLemmas.{have_types-length}
use Rattle.task_model.specs.Known.{Known}
use Rattle.task_model.specs.Truth.{has_type, have_types}

pub have_types-unequal : (known : Known) (objects sorts : List ℕ) → (length objects ≢ length sorts)
    → false ≡ have_types known objects sorts
have_types-unequal known objects sorts n = by (have_types known objects sorts) refl
  where
    by : (b : Bool) → have_types known objects sorts ≡ b → false ≡ b
    by true e = absurd (n (have_types-length known objects sorts e))
    by false e = refl

pub have_types-drop : (known : Known) (objects sorts : List ℕ) (i : ℕ) → i < length objects
    → i < length sorts
    → have_types known (drop i objects) (drop i sorts)
    ≡ (has_type known (get_or objects i 0) (get_or sorts i 0) && have_types known (drop (suc i) objects) (drop (suc i) sorts))
have_types-drop known [] sorts i h k = absurd (omega arith)
have_types-drop known (o ∷ os) [] i h k = absurd (omega arith)
have_types-drop known (o ∷ os) (s ∷ ss) zero h k = refl
have_types-drop known (o ∷ os) (s ∷ ss) (suc i) h k =
    have_types-drop known os ss i (omega arith) (omega arith)

pub list_all-drop : {A : Type 0} (p : A → Bool) (xs : List A) (i : ℕ) (x : A)
    → slice_get xs i ≡ Some x
    → list_all p (drop i xs) ≡ (p x && list_all p (drop (suc i) xs))
list_all-drop p [] i x e = absurd (cc)
list_all-drop p (y ∷ ys) zero x e = ap (λ z. p z && list_all p ys) (same_Some y x e)
list_all-drop p (y ∷ ys) (suc i) x e = list_all-drop p ys i x e

pub list_any-drop : {A : Type 0} (p : A → Bool) (xs : List A) (i : ℕ) (x : A)
    → slice_get xs i ≡ Some x
    → list_any p (drop i xs) ≡ (p x || list_any p (drop (suc i) xs))
list_any-drop p [] i x e = absurd (cc)
list_any-drop p (y ∷ ys) zero x e = ap (λ z. p z || list_any p ys) (same_Some y x e)
list_any-drop p (y ∷ ys) (suc i) x e = list_any-drop p ys i x e
