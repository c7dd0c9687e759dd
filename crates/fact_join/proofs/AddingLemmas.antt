-- Lists that have all that something holds of, each once, put together part by part.
use Rattle.std.proofs.Common.{◌≡◌, ℕ, zero, suc, ◌+◌, ◌≤◌, add-one, List, [], ◌∷◌, ◌++◌, length, take, refl, sym, ap, ◌∙◌, subst, arith, inl, inr, Contains, Some, slice_get, ◌↔◌, append_assoc, length-append}
use Rattle.std.proofs.lemmas.List.{append-nil, take_all}
use Rattle.std.proofs.lemmas.List.Elements.{Contains-append_left, Contains-append_right, Contains-append_cases}
use Rattle.lemmas.proofs.Ascending.{contains_here, contains_later, contains_none, contains_cases}
use Rattle.lemmas.proofs.Distinct.{distinct_cons, distinct_append}
use Rattle.lemmas.proofs.Members.{member_at, place_of, distinct_nil, from_take, take_next}
use Rattle.lemmas.specs.Lists.{AreDistinct}
use Rattle.fact_join.specs.Adding.{Adds, Exceeds, ComesOf}
use Rattle.fact_join.specs.declared.query.JoinFault.{JoinFault}
use Rattle.fact_join.specs.declared.query.JoinFault.TheVariants.{TooMany, Memory}

-- ---- distinct members

-- what stands at a place stands at none before
new_at : {A : Type 0} (xs : List A) (i : ℕ) (x : A) → AreDistinct xs → slice_get xs i ≡ Some x
    → Contains (take i xs) x → ⊥
new_at xs i x d at m = new_by (place_of (take i xs) x m)
  where
    new_by : (k : ℕ) × (slice_get (take i xs) k ≡ Some x) → ⊥
    new_by (k, e) = let r = from_take xs i k x e in let same : k ≡ i = d k i x r.1 at in absurd (omega (arith, r.0, same))

-- ---- one and the same condition

pub adds_same : {A : Type 0} (P R : A → Type 0) (old new : List A) → ((x : A) → P x ↔ R x)
    → Adds P old new → Adds R old new
adds_same P R old new same (more, is, all) = (
  more,
  is,
  record { distinct = all.distinct; each = λ x. (λ m. (same x).0 ((all.each x).0 m), λ r. (all.each x).1 ((same x).1 r)) },
)

pub comes_same : {A : Type 0} (most : ℕ) (P R : A → Type 0) (old : List A) (fault : JoinFault)
    → ((x : A) → P x → R x) → ComesOf most P old fault → ComesOf most R old fault
comes_same most P R old TooMany so (more, distinct, each, many) = (more, distinct, λ x m. so x (each x m), many)
comes_same most P R old Memory so h = tt

-- ---- nothing, and one

pub adds_none : {A : Type 0} (P : A → Type 0) (old : List A) → ((x : A) → ¬ (P x)) → Adds P old old
adds_none P old none = (
  [],
  sym (append-nil old),
  record { distinct = distinct_nil; each = λ x. (λ m. absurd (contains_none x m), λ p. absurd (none x p)) },
)

pub adds_one : {A : Type 0} (P : A → Type 0) (old : List A) (y : A) → P y → ((x : A) → P x → y ≡ x)
    → Adds P old (old ++ y ∷ [])
adds_one P old y p only = (
  y ∷ [],
  refl,
  record {
    distinct = distinct_cons y [] distinct_nil (contains_none y);
    each = λ x. (
      λ m. elim (contains_cases y [] x m) [ inl e ↦ subst P e p | inr n ↦ absurd (contains_none x n) ],
      λ q.
          subst (Contains (y ∷ [])) (only x q) (contains_here y []),
    );
  },
)

pub exceeds_one : {A : Type 0} (most : ℕ) (P : A → Type 0) (old : List A) (y : A) → P y
    → length old ≡ most → Exceeds most P old
exceeds_one most P old y p full = (
  y ∷ [],
  distinct_cons y [] distinct_nil (contains_none y),
  λ x m. elim (contains_cases y [] x m) [ inl e ↦ subst P e p | inr n ↦ absurd (contains_none x n) ],
  omega (arith, full),
)

-- ---- part by part

-- it holds with one of these
abbrev pub Among : {A B : Type 0} → (B → A → Type 0) → List B → A → Type 0
Among {A} {B} Q ys x = (y : B) × Contains ys y × Q y x

pub adds_start : {A B : Type 0} (Q : B → A → Type 0) (ys : List B) (old : List A)
    → Adds (Among Q (take 0 ys)) old old
adds_start Q ys old = adds_none (Among Q (take 0 ys)) old (λ x q. contains_none q.0 q.1)

in_front : {B : Type 0} (ys : List B) (i : ℕ) (z : B) → Contains (take i ys) z → Contains ys z
in_front ys zero z m = absurd (contains_none z m)
in_front [] (suc i) z m = absurd (contains_none z m)
in_front (w ∷ ws) (suc i) z m = elim (contains_cases w (take i ws) z m) [
  | inl e ↦ subst (Contains (w ∷ ws)) e (contains_here w ws)
  | inr n ↦ contains_later w ws z (in_front ws i z n)
]

module _ {A B : Type 0} (Q : B → A → Type 0) (ys : List B)
    (apart : (y z : B) (x : A) → Contains ys y → Contains ys z → Q y x → Q z x → y ≡ z) (distinct : AreDistinct ys) (i : ℕ) (y : B)
    (at : slice_get ys i ≡ Some y) where
  no_other : (x : A) → Among Q (take i ys) x → Q y x → ⊥
  no_other x p q =
      new_at ys i y distinct at (subst (Contains (take i ys)) (apart p.0 y x (in_front ys i p.0 p.1) (member_at ys i y at) p.2 q) p.1)

  next_is : take (i + 1) ys ≡ take i ys ++ y ∷ []
  next_is = ap (λ n. take n ys) (add-one i) ∙ take_next ys i y at

  pub adds_next : (first now new : List A) → Adds (Among Q (take i ys)) first now → Adds (Q y) now new
      → Adds (Among Q (take (i + 1) ys)) first new
  adds_next first now new (xs, is, all) (zs, adds, those) =
      subst (λ front. Adds (Among Q front) first new) (sym next_is) (
        xs ++ zs,
        adds ∙ ap (λ l. l ++ zs) is ∙ append_assoc first xs zs,
        record {
          distinct = distinct_append xs zs all.distinct those.distinct (λ x m n. no_other x ((all.each x).0 m) ((those.each x).0 n));
          each = λ x. (to x, from x);
        },
      )
    where
      to : (x : A) → Contains (xs ++ zs) x → Among Q (take i ys ++ y ∷ []) x
      to x m =
          elim (Contains-append_cases xs zs x m) [
            | inl h ↦ let p = (all.each x).0 h in (p.0, Contains-append_left (take i ys) (y ∷ []) p.0 p.1, p.2)
            | inr t ↦ (y, Contains-append_right (take i ys) (y ∷ []) y (contains_here y []), (those.each x).0 t)
          ]

      from : (x : A) → Among Q (take i ys ++ y ∷ []) x → Contains (xs ++ zs) x
      from x (z, m, q) =
          elim (Contains-append_cases (take i ys) (y ∷ []) z m) [
            | inl h ↦ Contains-append_left xs zs x ((all.each x).1 (z, h, q))
            | inr t ↦ elim (contains_cases y [] z t) [
              | inl e ↦ Contains-append_right xs zs x
                  ((those.each x).1 (subst (λ w. Q w x) (sym e) q))
              | inr n ↦ absurd (contains_none z n)
            ]
          ]

  pub comes_next : (most : ℕ) (first now : List A) (fault : JoinFault) → Adds (Among Q (take i ys)) first now
      → ComesOf most (Q y) now fault
      → ComesOf most (Among Q ys) first fault
  comes_next most first now TooMany (xs, is, all) (zs, apart_zs, those, many) = (
    xs ++ zs,
    distinct_append xs zs all.distinct apart_zs (λ x m n. no_other x ((all.each x).0 m) (those x n)),
    λ x m. elim (Contains-append_cases xs zs x m) [
      | inl h ↦ let p = (all.each x).0 h in (p.0, in_front ys i p.0 p.1, p.2)
      | inr t ↦ (y, member_at ys i y at, those x t)
    ],
    omega (arith, many, ap length is, length-append first xs, length-append xs zs),
  )
  comes_next most first now Memory a h = tt

pub adds_whole : {A B : Type 0} (P : A → Type 0) (Q : B → A → Type 0) (ys : List B) (i : ℕ) (old new : List A) → length ys ≤ i
    → ((x : A) → P x ↔ Among Q ys x)
    → Adds (Among Q (take i ys)) old new → Adds P old new
adds_whole P Q ys i old new whole same adds =
    adds_same (Among Q ys) P old new (λ x. ((same x).1, (same x).0))
    (subst (λ front. Adds (Among Q front) old new) (take_all i ys whole) adds)
