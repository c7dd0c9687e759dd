-- What is gone through: the objects of a type, and the facts that have an object at a place.
use Rattle.std.proofs.Common.{◌≡◌, ℕ, Bool, true, false, cond, ◌==◌, inl, inr, List, [], ◌∷◌, filter, refl, sym, ap, subst, ◌∙◌, Option, Some, None, slice_get, Contains, eqb-true, eq-eqb, ◌↔◌}
use Rattle.std.proofs.lemmas.Bool.{and_from}
use Rattle.std.specs.List.{filter_map, cons_option}
use Rattle.task_model.proofs.KnownLemmas.{fact_member, object_itself}
use Rattle.lemmas.proofs.Ascending.{contains_here, contains_later, contains_cases, contains_none}
use Rattle.lemmas.proofs.Distinct.{distinct_tail, head_is_new, distinct_cons}
use Rattle.lemmas.proofs.Members.{distinct_nil}
use Rattle.lemmas.specs.Lists.{AreDistinct}
use Rattle.task_model.specs.Known.{Known, type_fact, atom_fact, object_with, objects_of, is_match}
use Rattle.task_model.specs.Truth.{has_type}
use Rattle.task_model.specs.declared.fact.Fact.{Fact}
use Rattle.task_model.specs.declared.fact.Kind.{Kind}
use Rattle.task_model.specs.declared.fact.Kind.TheVariants.{Predicate, Sort}

-- ---- what a list is mapped to

module _ {A B : Type 0} (h : A → Option B) where
  pub from_mapped : (xs : List A) (y : B) → Contains (filter_map h xs) y
      → (x : A) × Contains xs x × (h x ≡ Some y)
  from_mapped [] y m = absurd (contains_none y m)
  from_mapped (x ∷ xs) y m =
      elim (h x) as (λ o. h x ≡ o → Contains (cons_option o (filter_map h xs)) y → (z : A) × Contains (x ∷ xs) z × (h z ≡ Some y)) [
        | None ↦ λ e n. let r = from_mapped xs y n in (r.0, contains_later x xs r.0 r.1, r.2)
        | Some w ↦ λ e n.
            elim (contains_cases w (filter_map h xs) y n) [
              | inl same ↦ (x, contains_here x xs, e ∙ ap Some same)
              | inr t ↦ let r = from_mapped xs y t in (r.0, contains_later x xs r.0 r.1, r.2)
            ]
      ] refl m

  pub into_mapped : (xs : List A) (x : A) (y : B) → Contains xs x → h x ≡ Some y
      → Contains (filter_map h xs) y
  into_mapped [] x y m e = absurd (contains_none x m)
  into_mapped (z ∷ zs) x y m e =
      elim (contains_cases z zs x m) [
        | inl same ↦ subst (λ o. Contains (cons_option o (filter_map h zs)) y) (sym (ap h same ∙ e)) (contains_here y (filter_map h zs))
        | inr t ↦ later (h z) (into_mapped zs x y t e)
      ]
    where
      later : (o : Option B) → Contains (filter_map h zs) y
          → Contains (cons_option o (filter_map h zs)) y
      later None n = n
      later (Some w) n = contains_later w (filter_map h zs) y n

  pub distinct_mapped : (xs : List A) → ((x z : A) (y : B) → h x ≡ Some y → h z ≡ Some y → x ≡ z)
      → AreDistinct xs
      → AreDistinct (filter_map h xs)
  distinct_mapped [] one d = distinct_nil
  distinct_mapped (x ∷ xs) one d = by (h x) refl (distinct_mapped xs one (distinct_tail x xs d))
    where
      by : (o : Option B) → h x ≡ o → AreDistinct (filter_map h xs)
          → AreDistinct (cons_option (h x) (filter_map h xs))
      by None e rest = subst (λ o. AreDistinct (cons_option o (filter_map h xs))) (sym e) rest
      by (Some w) e rest =
          subst (λ o. AreDistinct (cons_option o (filter_map h xs))) (sym e)
          (distinct_cons w (filter_map h xs) rest (λ m. let r = from_mapped xs w m in head_is_new x xs d
          (subst (Contains xs) (sym (one x r.0 w e r.2)) r.1)))

-- ---- what passes a test

module _ {A : Type 0} (p : A → Bool) where
  pub from_filter : (xs : List A) (y : A) → Contains (filter p xs) y → Contains xs y × (p y ≡ true)
  from_filter [] y m = absurd (contains_none y m)
  from_filter (x ∷ xs) y m =
      elim (p x) as (λ b. p x ≡ b → Contains (cond b (x ∷ filter p xs) (filter p xs)) y → Contains (x ∷ xs) y × (p y ≡ true)) [
        | true ↦ λ e n. elim (contains_cases x (filter p xs) y n) [
          | inl same ↦
              (subst (Contains (x ∷ xs)) same (contains_here x xs), ap p (sym same) ∙ e)
          | inr t ↦ let r = from_filter xs y t in (contains_later x xs y r.0, r.1)
        ]
        | false ↦ λ e n. let r = from_filter xs y n in (contains_later x xs y r.0, r.1)
      ] refl m

  pub into_filter : (xs : List A) (y : A) → Contains xs y → p y ≡ true → Contains (filter p xs) y
  into_filter [] y m e = absurd (contains_none y m)
  into_filter (x ∷ xs) y m e =
      elim (contains_cases x xs y m) [
        | inl same ↦ subst (λ b. Contains (cond b (x ∷ filter p xs) (filter p xs)) y) (sym (ap p same ∙ e))
            (subst (Contains (x ∷ filter p xs)) same (contains_here x (filter p xs)))
        | inr t ↦ later (p x) (into_filter xs y t e)
      ]
    where
      later : (b : Bool) → Contains (filter p xs) y → Contains (cond b (x ∷ filter p xs) (filter p xs)) y
      later true n = contains_later x (filter p xs) y n
      later false n = n

  pub distinct_filter : (xs : List A) → AreDistinct xs → AreDistinct (filter p xs)
  distinct_filter [] d = distinct_nil
  distinct_filter (x ∷ xs) d = by (p x) (distinct_filter xs (distinct_tail x xs d))
    where
      by : (b : Bool) → AreDistinct (filter p xs) → AreDistinct (cond b (x ∷ filter p xs) (filter p xs))
      by true rest = distinct_cons x (filter p xs) rest (λ m. head_is_new x xs d (from_filter xs x m).0)
      by false rest = rest

-- ---- the objects of a type

same_name : (sort object name o : ℕ) → cond (name == sort) (Some o) None ≡ Some object
    → (name ≡ sort) × (o ≡ object)
same_name sort object name o e =
    elim (name == sort) as (λ b. (name == sort) ≡ b → cond b (Some o) None ≡ Some object → (name ≡ sort) × (o ≡ object)) [
      | true ↦ λ t g. (eqb-true name sort t, let s : o ≡ object = cc in s)
      | false ↦ λ f g. absurd (cc)
    ] refl e

object_by : (sort object : ℕ) (k : Kind) (name : ℕ) (args : List ℕ)
    → object_with sort (record { kind = k; name = name; args = args }) ≡ Some object
    → record { kind = k; name = name; args = args } ≡ type_fact sort object
object_by sort object Predicate name args e = absurd (cc)
object_by sort object Sort name [] e = absurd (cc)
object_by sort object Sort name (o ∷ []) e =
    let s = same_name sort object name o e in λ i. record { kind = Sort; name = s.0 i; args = s.1 i ∷ [] }
object_by sort object Sort name (o ∷ (p ∷ ps)) e = absurd (cc)

object_is : (sort object : ℕ) (f : Fact) → object_with sort f ≡ Some object
    → f ≡ type_fact sort object
object_is sort object f e = object_by sort object f.kind f.name f.args e

pub objects_distinct : (facts : List Fact) (sort : ℕ) → AreDistinct facts
    → AreDistinct (objects_of facts sort)
objects_distinct facts sort d =
    distinct_mapped (object_with sort) facts (λ f g o e1 e2. object_is sort o f e1 ∙ sym (object_is sort o g e2)) d

pub has_object : (known : Known) (sort object : ℕ)
    → (has_type known object sort ≡ true) ↔ Contains (objects_of known.facts sort) object
has_object known sort object = (
  λ e. into_mapped (object_with sort) known.facts (type_fact sort object) object ((fact_member known.facts (type_fact sort object)).0 e)
      (object_itself sort object),
  λ m.
      let r = from_mapped (object_with sort) known.facts object m in
      (fact_member known.facts (type_fact sort object)).1 (subst (Contains known.facts) (object_is sort object r.0 r.2) r.1),
)

-- ---- the facts that have an object at a place

pub is_match_at : (pred place object : ℕ) (args : List ℕ) → slice_get args place ≡ Some object
    → is_match pred place object (atom_fact pred args) ≡ true
is_match_at pred place object args at =
    rw at (and_from (pred == pred) (object == object) (eq-eqb pred pred refl) (eq-eqb object object refl))
