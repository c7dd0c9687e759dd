-- Strictly ascending lists, put together from others.
use Rattle.std.proofs.Common.{◌≡◌, ℕ, zero, suc, ◌<◌, ◌⊎◌, inl, inr, List, [], ◌∷◌, ◌++◌, length, refl, sym, subst, arith, get_or, Contains, ◌∙◌, ap, Some, slice_get}
use Rattle.std.proofs.lemmas.List.Elements.{Contains-append_left, Contains-append_right, Contains-append_cases}
use Rattle.std.specs.List.{flat_map, AllByRecursion}
use Rattle.std.specs.List.Sorted.{IsStrictlySortedBy}
use Rattle.std.specs.declared.cmp.Ordering.{Ordering}
use Rattle.std.specs.declared.cmp.Ordering.TheVariants.{Less, Equal, Greater}
use Rattle.std.specs.Ordering.{ordering_then, ordering_reverse}
use Rattle.std.specs.Cmp.{IsTotalOrder}
use Rattle.lemmas.proofs.Members.{member_at, place_of}
use Rattle.lemmas.specs.Lists.{AreAscending}

-- ---- members

pub contains_none : {A : Type 0} (x : A) → ¬ (Contains [] x)
contains_none x c = absurd (omega (arith, c.1))

pub contains_here : {A : Type 0} (x : A) (xs : List A) → Contains (x ∷ xs) x
contains_here x xs = (0, omega arith, refl)

pub contains_later : {A : Type 0} (x : A) (xs : List A) (y : A) → Contains xs y
    → Contains (x ∷ xs) y
contains_later x xs y c = (suc c.0, omega (arith, c.1), c.2)

pub contains_cases : {A : Type 0} (x : A) (xs : List A) (y : A) → Contains (x ∷ xs) y
    → (x ≡ y) ⊎ Contains xs y
contains_cases x xs y c = at c.0 c.1 c.2
  where
    at : (k : ℕ) → k < length (x ∷ xs) → get_or (x ∷ xs) k y ≡ y → (x ≡ y) ⊎ Contains xs y
    at zero h e = inl e
    at (suc k) h e = inr (k, omega arith, e)

pub all_from : {A : Type 0} (P : A → Type 0) (xs : List A) → ((x : A) → Contains xs x → P x)
    → AllByRecursion P xs
all_from P [] each = tt
all_from P (x ∷ xs) each =
    (each x (contains_here x xs), all_from P xs (λ y c. each y (contains_later x xs y c)))

pub all_at : {A : Type 0} (P : A → Type 0) (xs : List A) → AllByRecursion P xs → (x : A)
    → Contains xs x → P x
all_at P [] all x c = absurd (contains_none x c)
all_at P (y ∷ ys) all x c =
    elim (contains_cases y ys x c) [ inl e ↦ subst P e all.0 | inr k ↦ all_at P ys all.1 x k ]

all_append : {A : Type 0} (P : A → Type 0) (xs ys : List A) → AllByRecursion P xs
    → AllByRecursion P ys → AllByRecursion P (xs ++ ys)
all_append P [] ys p q = q
all_append P (x ∷ xs) ys p q = (p.0, all_append P xs ys p.1 q)

pub from_flat_map : {A B : Type 0} (f : A → List B) (xs : List A) (y : B)
    → Contains (flat_map f xs) y
    → (x : A) × Contains xs x × Contains (f x) y
from_flat_map f [] y c = absurd (contains_none y c)
from_flat_map f (x ∷ xs) y c =
    elim (Contains-append_cases (f x) (flat_map f xs) y c) [
      | inl h ↦ (x, contains_here x xs, h)
      | inr h ↦ let rest = from_flat_map f xs y h in (rest.0, contains_later x xs rest.0 rest.1, rest.2)
    ]

pub in_flat_map : {A B : Type 0} (f : A → List B) (xs : List A) (x : A) (y : B) → Contains xs x
    → Contains (f x) y
    → Contains (flat_map f xs) y
in_flat_map f [] x y c d = absurd (contains_none x c)
in_flat_map f (z ∷ zs) x y c d =
    elim (contains_cases z zs x c) [
      | inl e ↦ Contains-append_left (f z) (flat_map f zs) y (subst (λ w. Contains (f w) y) (sym e) d)
      | inr k ↦ Contains-append_right (f z) (flat_map f zs) y (in_flat_map f zs x y k d)
    ]

-- ---- ascending

pub rising_append : {A : Type 0} (cmp : A → A → Ordering) (xs ys : List A)
    → IsStrictlySortedBy cmp xs → IsStrictlySortedBy cmp ys
    → ((x y : A) → Contains xs x → Contains ys y → cmp x y ≡ Less) → IsStrictlySortedBy cmp (xs ++ ys)
unfolding IsStrictlySortedBy
rising_append cmp [] ys p q less = q
rising_append cmp (x ∷ xs) ys p q less = (
  all_append (λ y. cmp x y ≡ Less) xs ys p.0 (all_from (λ y. cmp x y ≡ Less) ys (λ y c. less x y (contains_here x xs) c)),
  rising_append cmp xs ys p.1 q (λ a b c d. less a b (contains_later x xs a c) d),
)

pub rising_flat_map : {A B : Type 0} (lt : A → A → Ordering) (cmp : B → B → Ordering) (f : A → List B) (xs : List A)
    → IsStrictlySortedBy lt xs → ((x : A) → IsStrictlySortedBy cmp (f x))
    → ((x y : A) (a b : B) → lt x y ≡ Less → Contains (f x) a → Contains (f y) b → cmp a b ≡ Less) → IsStrictlySortedBy cmp (flat_map f xs)
unfolding IsStrictlySortedBy
rising_flat_map lt cmp f [] p each less = tt
rising_flat_map lt cmp f (x ∷ xs) p each less =
    rising_append cmp (f x) (flat_map f xs) (each x) (rising_flat_map lt cmp f xs p.1 each less) (λ a b c d.
    let from = from_flat_map f xs b d in
    less x from.0 a b (all_at (λ y. lt x y ≡ Less) xs p.0 from.0 from.1) c from.2)

pub ascending : {A : Type 0} (cmp : A → A → Ordering) (xs : List A) → IsStrictlySortedBy cmp xs
    → AreAscending cmp xs
unfolding IsStrictlySortedBy
ascending cmp [] p i j a b h e f = absurd (cc)
ascending cmp (x ∷ xs) p zero zero a b h e f = absurd (omega arith)
ascending cmp (x ∷ xs) p zero (suc j) a b h e f =
    let same : x ≡ a = cc in
    subst (λ w. cmp w b ≡ Less) same (all_at (λ y. cmp x y ≡ Less) xs p.0 b (member_at xs j b f))
ascending cmp (x ∷ xs) p (suc i) zero a b h e f = absurd (omega arith)
ascending cmp (x ∷ xs) p (suc i) (suc j) a b h e f = ascending cmp xs p.1 i j a b (omega arith) e f

-- ---- orderings

pub then_equal : (r s : Ordering) → ordering_then r s ≡ Equal → (r ≡ Equal) × (s ≡ Equal)
then_equal Less s e = absurd (cc)
then_equal Equal s e = (refl, e)
then_equal Greater s e = absurd (cc)

pub less_greater : Less ≡ Greater → ⊥
less_greater e = absurd (cc)

-- ---- an ascending list is determined by its members

not_both_less : {A : Type 0} (cmp : A → A → Ordering) → IsTotalOrder cmp → (x y : A)
    → cmp x y ≡ Less → cmp y x ≡ Less → ⊥
not_both_less cmp total x y first second =
    let turned : Less ≡ Greater = sym first ∙ total.antisymm x y ∙ ap ordering_reverse second in absurd (less_greater turned)

first_or : {A : Type 0} (x z : A) (xs : List A) (k : ℕ) → slice_get (x ∷ xs) k ≡ Some z
    → (x ≡ z) ⊎ Contains xs z
first_or x z xs zero at = inl (let same : x ≡ z = cc in same)
first_or x z xs (suc k) at = inr (member_at xs k z at)

head_less : {A : Type 0} (cmp : A → A → Ordering) (x z : A) (xs : List A)
    → AreAscending cmp (x ∷ xs) → Contains xs z → cmp x z ≡ Less
head_less cmp x z xs ascends there =
    let p = place_of xs z there in ascends 0 (suc p.0) x z (omega arith) refl p.1

tail_ascends : {A : Type 0} (cmp : A → A → Ordering) (x : A) (xs : List A)
    → AreAscending cmp (x ∷ xs) → AreAscending cmp xs
tail_ascends cmp x xs ascends i j a b lt at_i at_j =
    ascends (suc i) (suc j) a b (omega (arith, lt)) at_i at_j

module _ {A : Type 0} (cmp : A → A → Ordering) (total : IsTotalOrder cmp) where
  -- the lists have the same members
  abbrev Same : List A → List A → Type 0
  Same xs ys = (z : A) → Contains xs z → Contains ys z

  same_heads : (x y : A) (xs ys : List A) → AreAscending cmp (x ∷ xs) → AreAscending cmp (y ∷ ys)
      → Same (x ∷ xs) (y ∷ ys)
      → Same (y ∷ ys) (x ∷ xs) → x ≡ y
  same_heads x y xs ys first second there back =
      by (contains_cases y ys x (there x (contains_here x xs))) (contains_cases x xs y (back y (contains_here y ys)))
    where
      by : (y ≡ x) ⊎ Contains ys x → (x ≡ y) ⊎ Contains xs y → x ≡ y
      by (inl e) q = sym e
      by (inr m) (inl e) = e
      by (inr m) (inr n) = absurd (not_both_less cmp total x y (head_less cmp x y xs first n) (head_less cmp y x ys second m))

  tail_same : (x y : A) (xs ys : List A) → AreAscending cmp (x ∷ xs) → x ≡ y
      → Same (x ∷ xs) (y ∷ ys) → Same xs ys
  tail_same x y xs ys ascends same there z m =
      by (contains_cases y ys z (there z (contains_later x xs z m)))
    where
      by : (y ≡ z) ⊎ Contains ys z → Contains ys z
      by (inl e) =
          let less : cmp x x ≡ Less = subst (λ w. cmp x w ≡ Less) (sym (same ∙ e)) (head_less cmp x z xs ascends m) in
          absurd (not_both_less cmp total x x less less)
      by (inr n) = n

  pub same_list : (xs ys : List A) → AreAscending cmp xs → AreAscending cmp ys → Same xs ys
      → Same ys xs → xs ≡ ys
  same_list [] [] first second there back = refl
  same_list [] (y ∷ ys) first second there back =
      absurd (contains_none y (back y (contains_here y ys)))
  same_list (x ∷ xs) [] first second there back =
      absurd (contains_none x (there x (contains_here x xs)))
  same_list (x ∷ xs) (y ∷ ys) first second there back =
      let e = same_heads x y xs ys first second there back in
      let rest = same_list xs ys (tail_ascends cmp x xs first) (tail_ascends cmp y ys second)
      (tail_same x y xs ys first e there) (tail_same y x ys xs second (sym e) back) in
      λ i. e i ∷ rest i
