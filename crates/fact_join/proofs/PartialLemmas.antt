-- Partial tuples, and what is left of them.
use Rattle.std.proofs.Common.{◌≡◌, ℕ, zero, suc, ◌+◌, ◌<◌, ◌==◌, true, false, cond, List, [], ◌∷◌, ◌++◌, add-one, take, refl, sym, ap, ◌∙◌, subst, arith, Option, Some, None, is_none, count_by, get_or, slice_get, slice_index, slice_set, ◌↔◌, eqb-true, eq-eqb}
use Rattle.std.proofs.lemmas.Bool.{both_ways}
use Rattle.std.proofs.lemmas.List.{map-append}
use Rattle.lemmas.proofs.Members.{take_next}
use Rattle.std.proofs.lemmas.List.Sums.{sum_by-set}
use Rattle.std.proofs.lemmas.Option.{get_or_from_slice_get, slice_get_within}
use Rattle.std.proofs.lemmas.Bool.Decides.{nat_tests}
use Rattle.formula_eval.specs.Readable.{is_readable_term}
use Rattle.task_model.specs.Truth.{object_of, objects_at}
use Rattle.task_model.specs.declared.condition.Term.{Term}
use Rattle.task_model.specs.declared.condition.Term.TheVariants.{Slot, Object}
use Rattle.fact_join.specs.Partials.{Agrees, Narrows, IsFixed, AreFixed, free_slots}
use Rattle.fact_join.specs.declared.partial.Partial.{Partial}

-- ---- a slot gets an object

pub get_set : {A : Type 0} (xs : List A) (i : ℕ) (a b : A) → slice_get xs i ≡ Some a
    → slice_get (slice_set xs i b) i ≡ Some b
get_set [] i a b e = absurd (cc)
get_set (x ∷ xs) zero a b e = refl
get_set (x ∷ xs) (suc i) a b e = get_set xs i a b e

pub get_set_other : {A : Type 0} (xs : List A) (i k : ℕ) (b : A) → ¬ (i ≡ k)
    → slice_get (slice_set xs i b) k ≡ slice_get xs k
get_set_other [] i k b other = refl
get_set_other (x ∷ xs) zero zero b other = absurd (other refl)
get_set_other (x ∷ xs) zero (suc k) b other = refl
get_set_other (x ∷ xs) (suc i) zero b other = refl
get_set_other (x ∷ xs) (suc i) (suc k) b other = get_set_other xs i k b (λ e. other (ap suc e))

unlike : (i k : ℕ) → (i == k) ≡ false → ¬ (i ≡ k)
unlike i k f e = both_ways (i == k) f (eq-eqb i k e)

not_free : (o : ℕ) (y : Option (Option ℕ)) → y ≡ Some (Some o) → y ≡ Some None → ⊥
not_free o y e f = absurd (cc)

module _ (partial left : Partial) (slot object : ℕ) (below : slot < 16) (free : slice_get partial.slots slot ≡ Some None)
    (is : left.slots ≡ slice_set partial.slots slot (Some object)) where
  here : slice_get left.slots slot ≡ Some (Some object)
  here = ap (λ os. slice_get os slot) is ∙ get_set partial.slots slot None (Some object) free

  elsewhere : (k : ℕ) → ¬ (slot ≡ k) → slice_get left.slots k ≡ slice_get partial.slots k
  elsewhere k other = ap (λ os. slice_get os k) is ∙ get_set_other partial.slots slot k (Some object) other

  pub filled_agrees : (slots : List ℕ)
      → Agrees left slots ↔ (Agrees partial slots × (slice_index slots slot ≡ object))
  filled_agrees slots = (
    λ a. (
      λ k o lt e. a k o lt (elsewhere k (λ same. not_free o (slice_get partial.slots k) e
          (ap (slice_get partial.slots) (sym same) ∙ free)) ∙ e),
      a slot object below here,
    ),
    λ (a, at) k o lt e.
        elim (slot == k) as (λ b. (slot == k) ≡ b → slice_index slots k ≡ o) [
          | true ↦ λ t.
              let same = eqb-true slot k t in
              let known : Some (Some object) ≡ Some (Some o) = sym here ∙ ap (slice_get left.slots) same ∙ e in
              ap (slice_index slots) (sym same) ∙ at ∙ (let one : object ≡ o = cc in one)
          | false ↦ λ f. a k o lt (sym (elsewhere k (unlike slot k f)) ∙ e)
        ] refl,
  )

  pub filled_fewer : free_slots left < free_slots partial
  filled_fewer =
      subst (λ os. count_by is_none os < free_slots partial) (sym is) (one_less partial.slots slot object free)
    where
      one_less : (os : List (Option ℕ)) (i o : ℕ) → slice_get os i ≡ Some None
          → count_by is_none (slice_set os i (Some o)) < count_by is_none os
      one_less os i o e =
          let f : Option ℕ → ℕ = λ x. cond (is_none x) 1 0 in
          let none : Option ℕ = None in
          let was : f (get_or os i none) ≡ 1 = ap f (get_or_from_slice_get os i none none e) in
          let moved : count_by is_none (slice_set os i (Some o)) + f (get_or os i none) ≡ count_by is_none os + 0 =
          sum_by-set f os i (Some o) none (slice_get_within os i none e) in
          omega (arith, was, moved)

-- ---- what is left

pub narrows_same : (partial : Partial) (P : List ℕ → Type 0)
    → ((slots : List ℕ) → Agrees partial slots → P slots)
    → Narrows partial P (Some partial)
narrows_same partial P so = (λ slots. (λ a. (a, so slots a), λ (a, p). a), omega arith)

pub narrows_none : (partial : Partial) (P R : List ℕ → Type 0) → Narrows partial P None
    → ((slots : List ℕ) → R slots → P slots)
    → Narrows partial R None
narrows_none partial P R none so slots a r = none slots a (so slots r)

pub narrows_both : (partial left : Partial) (P Q R : List ℕ → Type 0) (result : Option Partial) → Narrows partial P (Some left)
    → ((slots : List ℕ) → R slots ↔ (P slots × Q slots))
    → Narrows left Q result → Narrows partial R result
narrows_both partial left P Q R None (first, fewer) both none =
    λ slots a r. let pq = (both slots).0 r in none slots ((first slots).1 (a, pq.0)) pq.1
narrows_both partial left P Q R (Some last) (first, fewer) both (second, less) = (
  λ slots. (
    λ a. let aq = (second slots).0 a in let ap = (first slots).0 aq.0 in (ap.0, (both slots).1 (ap.1, aq.1)),
    λ (a, r). let pq = (both slots).0 r in (second slots).1 ((first slots).1 (a, pq.0), pq.1),
  ),
  omega (arith, fewer, less),
)

pub objects_cons : (slots : List ℕ) (term : Term) (terms : List Term) (object : ℕ) (objects : List ℕ)
    → (objects_at slots (term ∷ terms) ≡ object ∷ objects) ↔ ((object_of slots term ≡ object) × (objects_at slots terms ≡ objects))
objects_cons slots term terms object objects = (
  λ e. (let one : object_of slots term ≡ object = cc in one, let more : objects_at slots terms ≡ objects = cc in more),
  λ (e, f) i. e i ∷ f i,
)

-- the terms that were passed, with one more
pub ground_next : (partial : Partial) (terms : List Term) (i : ℕ) (term : Term) (object : ℕ) (row new : List ℕ)
    → slice_get terms i ≡ Some term → IsFixed partial term object
    → ((slots : List ℕ) → Agrees partial slots → objects_at slots (take i terms) ≡ row) → new ≡ row ++ object ∷ []
    → (slots : List ℕ) → Agrees partial slots → objects_at slots (take (i + 1) terms) ≡ new
ground_next partial terms i term object row new at fixed before is slots a =
    ap (λ n. objects_at slots (take n terms)) (add-one i) ∙ ap (objects_at slots) (take_next terms i term at)
    ∙ map-append (object_of slots) (take i terms) (term ∷ [])
    ∙ (λ k. before slots a k ++ fixed slots a k ∷ []) ∙ sym is

-- one slot more
pub fixed_next : (partial : Partial) (slot : ℕ) (found : Option ℕ) → slice_get partial.slots slot ≡ Some found
    → is_none found ≡ false → AreFixed partial slot → AreFixed partial (slot + 1)
fixed_next partial slot None at there before k less = absurd (cc)
fixed_next partial slot (Some o) at there before k less =
    elim (k == slot) as (λ b. (k == slot) ≡ b → (x : ℕ) × (slice_get partial.slots k ≡ Some (Some x))) [
      | true ↦ λ t. (o, ap (slice_get partial.slots) (eqb-true k slot t) ∙ at)
      | false ↦ λ f. before k (let other = unlike k slot f in omega (arith, less, other))
    ] refl

pub readable_slot : (n : ℕ) → is_readable_term (Slot n) ≡ true → n < 16
readable_slot n e = grind (arith, nat_tests, e)

pub fixed_object : (partial : Partial) (object : ℕ) → IsFixed partial (Object object) object
fixed_object partial object slots a = refl

pub fixed_slot : (partial : Partial) (n object : ℕ) → is_readable_term (Slot n) ≡ true
    → slice_get partial.slots n ≡ Some (Some object)
    → IsFixed partial (Slot n) object
fixed_slot partial n object readable at slots a = a n object (readable_slot n readable) at
