-- Members of lists, and tests of all or some.
use Rattle.std.proofs.Common.{◌≡◌, ℕ, zero, suc, ◌+◌, add-one, ◌<◌, Bool, true, false, ◌&&◌, ◌||◌, List, [], ◌∷◌, map, drop, ◌++◌, length, get_or, refl, sym, ap, ◌∙◌, subst, arith, Some, slice_get, All, inl, inr, cond, None, ◌==◌, eqb-true}
use Rattle.std.specs.Cmp.{first_so, second_so}
use Rattle.std.specs.List.{list_any, list_all, find}
use Rattle.std.proofs.lemmas.Bool.{or_left, or_right, or_cases, and_from}
use Rattle.std.proofs.lemmas.Option.{same_Some, slice_get-get_or}
use Rattle.std.proofs.lemmas.List.Sums.{AllPass-from_list_all}

-- some member passes
pub any_found : {A : Type 0} (p : A → Bool) (xs : List A) → list_any p xs ≡ true
    → (i : ℕ) × (x : A) × (slice_get xs i ≡ Some x) × (p x ≡ true)
any_found p [] e = absurd (cc)
any_found p (x ∷ xs) e =
    elim (p x) as (λ b. p x ≡ b → (b || list_any p xs) ≡ true → (i : ℕ) × (y : _) × (slice_get (x ∷ xs) i ≡ Some y) × (p y ≡ true)) [
      | true ↦ λ t _. (0, x, refl, t)
      | false ↦ λ _ rest. let found = any_found p xs rest in (suc found.0, found.1, found.2, found.3)
    ] refl e

-- some number is this one
pub number_found : (xs : List ℕ) (a : ℕ) → list_any (λ n. n == a) xs ≡ true
    → (i : ℕ) × (slice_get xs i ≡ Some a)
number_found xs a e =
    let found = any_found (λ n. n == a) xs e in
    (found.0, found.2 ∙ ap Some (eqb-true found.1 a found.3))

-- each member passes
pub all_at : {A : Type 0} (p : A → Bool) (xs : List A) (i : ℕ) (x : A) → list_all p xs ≡ true
    → slice_get xs i ≡ Some x → p x ≡ true
all_at p [] i x all e = absurd (cc)
all_at p (y ∷ ys) zero x all e =
    subst (λ z. p z ≡ true) (same_Some y x e) (first_so (p y) (list_all p ys) all)
all_at p (y ∷ ys) (suc i) x all e = all_at p ys i x (second_so (p y) (list_all p ys) all) e

pub all_from : {A : Type 0} (p : A → Bool) (xs : List A)
    → ((i : ℕ) (x : A) → slice_get xs i ≡ Some x → p x ≡ true) → list_all p xs ≡ true
all_from p [] each = refl
all_from p (x ∷ xs) each =
    and_from (p x) (list_all p xs) (each 0 x refl) (all_from p xs (λ i y e. each (suc i) y e))

pub any_mapped : {A B : Type 0} (f : A → B) (p : B → Bool) (xs : List A)
    → list_any p (map f xs) ≡ list_any (λ x. p (f x)) xs
any_mapped f p [] = refl
any_mapped f p (x ∷ xs) = ap (λ b. p (f x) || b) (any_mapped f p xs)

pub all_mapped : {A B : Type 0} (f : A → B) (p : B → Bool) (xs : List A)
    → list_all p (map f xs) ≡ list_all (λ x. p (f x)) xs
all_mapped f p [] = refl
all_mapped f p (x ∷ xs) = ap (λ b. p (f x) && b) (all_mapped f p xs)

-- ---- members by their places

pub get_some : {A : Type 0} (xs : List A) (i : ℕ) (x : A) → i < length xs → x ≡ get_or xs i x
    → slice_get xs i ≡ Some x
get_some [] i x h e = absurd (omega arith)
get_some (y ∷ ys) zero x h e = ap Some (sym e)
get_some (y ∷ ys) (suc i) x h e = get_some ys i x (omega arith) e

pub get_there : {A : Type 0} (xs : List A) (i : ℕ) → i < length xs
    → (x : A) × (slice_get xs i ≡ Some x)
get_there [] i h = absurd (omega arith)
get_there (y ∷ ys) zero h = (y, refl)
get_there (y ∷ ys) (suc i) h = get_there ys i (omega arith)

pub one_there : {A : Type 0} (xs : List A) (i : ℕ) (x y : A) → slice_get xs i ≡ Some x
    → slice_get xs i ≡ Some y → x ≡ y
one_there xs i x y e f = same_Some x y (sym e ∙ f)

-- what is left to see from a place on
pub any_from : {A : Type 0} (p : A → Bool) (xs : List A) (i : ℕ) (x : A) → slice_get xs i ≡ Some x
    → list_any p (drop i xs) ≡ (p x || list_any p (drop (i + 1) xs))
any_from p xs i x e = from xs i e ∙ ap (λ n. p x || list_any p (drop n xs)) (sym (add-one i))
  where
    from : (xs : List _) (i : ℕ) → slice_get xs i ≡ Some x
        → list_any p (drop i xs) ≡ (p x || list_any p (drop (suc i) xs))
    from [] i e = absurd (cc)
    from (y ∷ ys) zero e = ap (λ z. p z || list_any p ys) (same_Some y x e)
    from (y ∷ ys) (suc i) e = from ys i e

-- ---- what holds of each member

pub all_one : {A : Type 0} (P : A → Type 0) (x : A) → P x → All P (x ∷ [])
all_one P x p zero d lt = p
all_one P x p (suc k) d lt = absurd (omega arith)

pub all_by_place : {A : Type 0} (P : A → Type 0) (xs : List A)
    → ((n : ℕ) (x : A) → slice_get xs n ≡ Some x → P x) → All P xs
all_by_place P xs each k d h = each k _ (slice_get-get_or xs k d h)

-- ---- lists put together

pub any_append_left : {A : Type 0} (p : A → Bool) (xs ys : List A) → list_any p xs ≡ true
    → list_any p (xs ++ ys) ≡ true
any_append_left p [] ys e = absurd (cc)
any_append_left p (x ∷ xs) ys e =
    elim (or_cases (p x) (list_any p xs) e)
    [ inl t ↦ or_left (p x) (list_any p (xs ++ ys)) t | inr t ↦ or_right (p x) (list_any p (xs ++ ys)) (any_append_left p xs ys t) ]

pub any_append_right : {A : Type 0} (p : A → Bool) (xs ys : List A) → list_any p ys ≡ true
    → list_any p (xs ++ ys) ≡ true
any_append_right p [] ys e = e
any_append_right p (x ∷ xs) ys e =
    or_right (p x) (list_any p (xs ++ ys)) (any_append_right p xs ys e)

pub all_append : {A : Type 0} (p : A → Bool) (xs ys : List A) → list_all p xs ≡ true
    → list_all p ys ≡ true → list_all p (xs ++ ys) ≡ true
all_append p [] ys e f = f
all_append p (x ∷ xs) ys e f =
    and_from (p x) (list_all p (xs ++ ys)) (first_so (p x) (list_all p xs) e) (all_append p xs ys (second_so (p x) (list_all p xs) e) f)

pub all_push : {A : Type 0} (p : A → Bool) (xs : List A) (x : A) → list_all p xs ≡ true → p x ≡ true
    → list_all p (xs ++ x ∷ []) ≡ true
all_push p xs x e t = all_append p xs (x ∷ []) e (and_from (p x) true t refl)

pub all_weaker : (p q : ℕ → Bool) → ((b : ℕ) → p b ≡ true → q b ≡ true) → (text : List ℕ)
    → list_all p text ≡ true → list_all q text ≡ true
all_weaker p q so [] e = refl
all_weaker p q so (b ∷ bs) e =
    and_from (q b) (list_all q bs) (so b (first_so (p b) (list_all p bs) e)) (all_weaker p q so bs (second_so (p b) (list_all p bs) e))

pub all_at_or : {A : Type 0} (p : A → Bool) (xs : List A) (i : ℕ) (x : A) → list_all p xs ≡ true
    → i < length xs → x ≡ get_or xs i x
    → p x ≡ true
all_at_or p xs i x all lt is =
    subst (λ y. p y ≡ true) (sym is) (AllPass-from_list_all p xs all i x lt)

-- ---- members of which something holds, and the first that passes

pub find_passes : {A : Type 0} (p : A → Bool) (xs : List A) (x : A) → find p xs ≡ Some x
    → p x ≡ true
find_passes p [] x e = absurd (cc)
find_passes p (y ∷ ys) x e =
    elim (p y) as (λ b. p y ≡ b → cond b (Some y) (find p ys) ≡ Some x → p x ≡ true) [
      | true ↦ λ t f. let same : y ≡ x = cc in subst (λ z. p z ≡ true) same t
      | false ↦ λ t f. find_passes p ys x f
    ] refl e

pub find_none : {A : Type 0} (p : A → Bool) (xs : List A) → find p xs ≡ None → (k : ℕ) (x : A)
    → slice_get xs k ≡ Some x → p x ≡ false
find_none p [] none k x at = absurd (cc)
find_none p (y ∷ ys) none k x at =
    by (p y) refl none k at (λ h n is. find_none p ys h n x is)
  where
    by : (b : Bool) → p y ≡ b → cond b (Some y) (find p ys) ≡ None → (n : ℕ)
        → slice_get (y ∷ ys) n ≡ Some x
        → (find p ys ≡ None → (n : ℕ) → slice_get ys n ≡ Some x → p x ≡ false) → p x ≡ false
    by true e h n is later = absurd (cc)
    by false e h zero is later = let same : y ≡ x = cc in ap p (sym same) ∙ e
    by false e h (suc n) is later = later h n is
