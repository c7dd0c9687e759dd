-- Members of lists, by place, and lists of distinct members.
use Rattle.std.proofs.Common.{◌≡◌, ℕ, zero, suc, ◌+◌, add-one, ◌<◌, ◌⊎◌, inl, inr, List, [], ◌∷◌, ◌++◌, length, map, take, get_or, refl, sym, ap, ◌∙◌, arith, Some, None, slice_get, Contains}
use Rattle.std.proofs.Math.Seq.{take-suc}
use Rattle.std.proofs.lemmas.List.{append-nil}
use Rattle.std.proofs.lemmas.List.Concat.{flat_map-append}
use Rattle.std.proofs.lemmas.List.Folds.{flat_map-map}
use Rattle.std.proofs.lemmas.Option.{slice_get_within, get_or_from_slice_get, slice_get-get_or, same_Some}
use Rattle.std.specs.List.{flat_map}
use Rattle.lemmas.specs.Lists.{AreDistinct}

pub member_at : {A : Type 0} (xs : List A) (k : ℕ) (x : A) → slice_get xs k ≡ Some x → Contains xs x
member_at xs k x e = (k, slice_get_within xs k x e, get_or_from_slice_get xs k x x e)

pub place_of : {A : Type 0} (xs : List A) (x : A) → Contains xs x
    → (k : ℕ) × (slice_get xs k ≡ Some x)
place_of xs x c = (c.0, slice_get-get_or xs c.0 x c.1 ∙ ap Some c.2)

-- within a list something stands
pub some_within : {A : Type 0} (xs : List A) (i : ℕ) → i < length xs → slice_get xs i ≡ None → ⊥
some_within [] i lt e = omega arith
some_within (x ∷ xs) zero lt e = absurd (cc)
some_within (x ∷ xs) (suc i) lt e = some_within xs i (omega arith) e

-- what stands in a list with one more member stood there, or is that member
pub push_cases : {A : Type 0} (xs : List A) (y : A) (i : ℕ) (x : A)
    → slice_get (xs ++ y ∷ []) i ≡ Some x
    → (slice_get xs i ≡ Some x) ⊎ ((i ≡ length xs) × (x ≡ y))
push_cases [] y zero x e = inr (refl, cc)
push_cases [] y (suc i) x e = absurd (cc)
push_cases (z ∷ zs) y zero x e = inl e
push_cases (z ∷ zs) y (suc i) x e =
    elim (push_cases zs y i x e) [ inl h ↦ inl h | inr h ↦ inr (ap suc h.0, h.1) ]

-- what stands in two lists put together stands in the first, or behind it
pub append_cases : {A : Type 0} (xs ys : List A) (k : ℕ) (x : A) → slice_get (xs ++ ys) k ≡ Some x
    → (slice_get xs k ≡ Some x) ⊎ ((j : ℕ) × (k ≡ length xs + j) × (slice_get ys j ≡ Some x))
append_cases [] ys k x at = inr (k, omega arith, at)
append_cases (z ∷ zs) ys zero x at = inl at
append_cases (z ∷ zs) ys (suc k) x at =
    elim (append_cases zs ys k x at) [ inl h ↦ inl h | inr h ↦ inr (h.0, omega (arith, h.1), h.2) ]

-- what stands in a front of a list
pub from_take : {A : Type 0} (xs : List A) (n k : ℕ) (x : A) → slice_get (take n xs) k ≡ Some x
    → (k < n) × (slice_get xs k ≡ Some x)
from_take xs zero k x at = absurd (cc)
from_take [] (suc n) k x at = absurd (cc)
from_take (y ∷ ys) (suc n) zero x at = (omega arith, at)
from_take (y ∷ ys) (suc n) (suc k) x at = let r = from_take ys n k x at in (omega (arith, r.0), r.1)

pub distinct_push : {A : Type 0} (xs : List A) (y : A) → AreDistinct xs → ¬ (Contains xs y)
    → AreDistinct (xs ++ y ∷ [])
distinct_push xs y distinct absent i j x at_i at_j =
    elim (push_cases xs y i x at_i) [
      | inl h ↦ elim (push_cases xs y j x at_j)
          [ inl k ↦ distinct i j x h k | inr k ↦ absurd (absent (member_at xs i y (h ∙ ap Some k.1))) ]
      | inr h ↦ elim (push_cases xs y j x at_j) [ inl k ↦ absurd (absent (member_at xs j y (k ∙ ap Some h.1))) | inr k ↦ h.0 ∙ sym k.0 ]
    ]

pub distinct_nil : {A : Type 0} → AreDistinct {A = A} []
distinct_nil i j x e f = absurd (cc)

-- ---- what stands where, in lists put together and cut

pub get_append : {A : Type 0} (xs ys : List A) (n : ℕ) (x : A) → slice_get xs n ≡ Some x
    → slice_get (xs ++ ys) n ≡ Some x
get_append [] ys n x e = absurd (cc)
get_append (z ∷ zs) ys zero x e = e
get_append (z ∷ zs) ys (suc n) x e = get_append zs ys n x e

pub get_pushed : {A : Type 0} (xs : List A) (x : A) (n : ℕ) → n ≡ length xs
    → slice_get (xs ++ x ∷ []) n ≡ Some x
get_pushed [] x n e = ap (slice_get (x ∷ [])) e
get_pushed (y ∷ ys) x zero e = absurd (omega arith)
get_pushed (y ∷ ys) x (suc n) e = get_pushed ys x n (omega arith)

pub get_at_length : {A : Type 0} (xs : List A) (x : A)
    → slice_get (xs ++ x ∷ []) (length xs) ≡ Some x
get_at_length [] x = refl
get_at_length (y ∷ ys) x = get_at_length ys x

pub get_behind : {A : Type 0} (xs ys : List A) (k : ℕ) (x : A) → slice_get ys k ≡ Some x
    → slice_get (xs ++ ys) (length xs + k) ≡ Some x
get_behind [] ys k x at = ap (slice_get ys) (let e : 0 + k ≡ k = omega arith in e) ∙ at
get_behind (z ∷ zs) ys k x at =
    ap (slice_get (z ∷ zs ++ ys)) (let e : suc (length zs) + k ≡ suc (length zs + k) = omega arith in e) ∙ get_behind zs ys k x at

pub get_single : {A : Type 0} (x y : A) (k : ℕ) → slice_get (x ∷ []) k ≡ Some y → (k ≡ 0) × (x ≡ y)
get_single x y zero e = (refl, cc)
get_single x y (suc k) e = absurd (cc)

pub get_take : {A : Type 0} (xs : List A) (j k : ℕ) (x : A) → slice_get xs j ≡ Some x → j < k
    → slice_get (take k xs) j ≡ Some x
get_take [] j k x at lt = absurd (cc)
get_take (y ∷ ys) j zero x at lt = absurd (omega arith)
get_take (y ∷ ys) zero (suc k) x at lt = at
get_take (y ∷ ys) (suc j) (suc k) x at lt =
    let below : j < k = omega arith in get_take ys j k x at below

pub get_and_take : {A : Type 0} (xs : List A) (j k : ℕ) (x : A) → j < k → slice_get xs j ≡ Some x
    → (slice_get (take k xs) j ≡ Some x) × (take j (take k xs) ≡ take j xs)
get_and_take [] j k x lt at = absurd (cc)
get_and_take (y ∷ ys) j zero x lt at = absurd (omega (arith, lt))
get_and_take (y ∷ ys) zero (suc k) x lt at = (at, refl)
get_and_take (y ∷ ys) (suc j) (suc k) x lt at =
    let below : j < k = omega (arith, lt) in
    let r = get_and_take ys j k x below at in
    (r.0, ap (λ zs. y ∷ zs) r.1)

pub take_next : {A : Type 0} (xs : List A) (i : ℕ) (x : A) → slice_get xs i ≡ Some x
    → take (suc i) xs ≡ take i xs ++ x ∷ []
take_next [] i x e = absurd (cc)
take_next (y ∷ ys) zero x e = ap (λ z. z ∷ []) (same_Some y x e)
take_next (y ∷ ys) (suc i) x e = ap (λ zs. y ∷ zs) (take_next ys i x e)

pub next_taken : {A : Type 0} (xs : List A) (i : ℕ) (x : A) → slice_get xs i ≡ Some x
    → take (i + 1) xs ≡ take i xs ++ x ∷ []
next_taken xs i x e = ap (λ n. take n xs) (add-one i) ∙ take_next xs i x e

pub take_append : {A : Type 0} (xs ys : List A) → take (length xs) (xs ++ ys) ≡ xs
take_append [] ys = refl
take_append (x ∷ xs) ys = ap (λ zs. x ∷ zs) (take_append xs ys)

-- parts of nothing
pub append_nil_first : {A : Type 0} (xs ys : List A) → xs ++ ys ≡ [] → xs ≡ []
append_nil_first [] ys e = refl
append_nil_first (x ∷ xs) ys e = absurd (cc)

pub append_nil_second : {A : Type 0} (xs ys : List A) → xs ++ ys ≡ [] → ys ≡ []
append_nil_second [] ys e = e
append_nil_second (x ∷ xs) ys e = absurd (cc)

pub none_both : {A : Type 0} (xs ys : List A) → xs ++ ys ≡ [] → (xs ≡ []) × (ys ≡ [])
none_both xs ys e = (append_nil_first xs ys e, append_nil_second xs ys e)

-- one member more
pub flat_map_next : {X A : Type 0} (f : X → List A) (xs : List X) (i : ℕ) (x : X) → i < length xs
    → x ≡ get_or xs i x
    → flat_map f (take (i + 1) xs) ≡ flat_map f (take i xs) ++ f x
flat_map_next f xs i x lt is =
    let one : take (i + 1) xs ≡ take i xs ++ x ∷ [] = rw add-one (take-suc xs i x lt ∙ ap (λ y. take i xs ++ y ∷ []) (sym is)) in
    rw (one, flat_map-append) (ap (λ t. flat_map f (take i xs) ++ t) (append-nil (f x)))

pub flat_map_map_next : {X B A : Type 0} (f : B → List A) (g : X → B) (xs : List X) (i : ℕ) (x : X)
    → i < length xs → x ≡ get_or xs i x
    → flat_map f (map g (take (i + 1) xs)) ≡ flat_map f (map g (take i xs)) ++ f (g x)
flat_map_map_next f g xs i x lt is =
    flat_map-map f g (take (i + 1) xs) ∙ flat_map_next (λ y. f (g y)) xs i x lt is
    ∙ ap (λ t. t ++ f (g x)) (sym (flat_map-map f g (take i xs)))
