-- Truth and the slots of a condition.
use Rattle.std.proofs.Common.{◌≡◌, ℕ, ◌+◌, zero, suc, Bool, true, not, ◌&&◌, ◌||◌, ◌==◌, List, [], ◌∷◌, length, refl, sym, ap, ◌∙◌, arith, slice_index, slice_set, eq-eqb}
use Rattle.std.specs.List.{list_any}
use Rattle.std.proofs.lemmas.Bool.{or_right, or_left}
use Rattle.task_model.specs.Condition.{Condition, Conditions, Atom, Equal, All as every, Any, Not, Exists, none, more}
use Rattle.task_model.specs.Laws.{touches, any_touches}
use Rattle.task_model.specs.Truth.{object_of, objects_at, some_tuple, truth, all_true, any_true, is_slot}
use Rattle.task_model.specs.declared.condition.Term.{Term}
use Rattle.task_model.specs.declared.condition.Term.TheVariants.{Slot, Object}

-- the two lists of slots agree where the test says so
pub record Agree (test : ℕ → Bool) (s t : List ℕ) : Type 0 where
  pub long : length s ≡ length t
  pub at : (n : ℕ) → test n ≡ true → slice_index s n ≡ slice_index t n

agree_left : (p q : ℕ → Bool) (s t : List ℕ) → Agree (λ n. p n || q n) s t → Agree p s t
agree_left p q s t a = record { long = a.long; at = λ n h. a.at n (or_left (p n) (q n) h) }

agree_right : (p q : ℕ → Bool) (s t : List ℕ) → Agree (λ n. p n || q n) s t → Agree q s t
agree_right p q s t a = record { long = a.long; at = λ n h. a.at n (or_right (p n) (q n) h) }

index_set : (s t : List ℕ) (i v n : ℕ) → length s ≡ length t → slice_index s n ≡ slice_index t n
    → slice_index (slice_set s i v) n ≡ slice_index (slice_set t i v) n
index_set [] [] i v n long e = refl
index_set [] (y ∷ ys) i v n long e = absurd (omega arith)
index_set (x ∷ xs) [] i v n long e = absurd (omega arith)
index_set (x ∷ xs) (y ∷ ys) zero v zero long e = refl
index_set (x ∷ xs) (y ∷ ys) zero v (suc n) long e = e
index_set (x ∷ xs) (y ∷ ys) (suc i) v zero long e = e
index_set (x ∷ xs) (y ∷ ys) (suc i) v (suc n) long e = index_set xs ys i v n (omega arith) e

length_set : (s : List ℕ) (i v : ℕ) → length (slice_set s i v) ≡ length s
length_set [] i v = refl
length_set (x ∷ xs) zero v = refl
length_set (x ∷ xs) (suc i) v = ap suc (length_set xs i v)

agree_set : (test : ℕ → Bool) (s t : List ℕ) (i v : ℕ) → Agree test s t
    → Agree test (slice_set s i v) (slice_set t i v)
agree_set test s t i v a = record {
  long = length_set s i v ∙ a.long ∙ sym (length_set t i v);
  at = λ n h. index_set s t i v n a.long (a.at n h);
}

same_slot : (n : ℕ) → (n == n) ≡ true
same_slot n = eq-eqb n n refl

same_object : (s t : List ℕ) (term : Term) → Agree (λ n. is_slot n term) s t
    → object_of s term ≡ object_of t term
same_object s t (Slot n) a = a.at n (same_slot n)
same_object s t (Object o) a = refl

same_objects : (s t : List ℕ) (terms : List Term) → Agree (λ n. list_any (is_slot n) terms) s t
    → objects_at s terms ≡ objects_at t terms
same_objects s t [] a = refl
same_objects s t (term ∷ terms) a =
    λ i. same_object s t term (agree_left (λ n. is_slot n term) (λ n. list_any (is_slot n) terms) s t a) i
    ∷ same_objects s t terms (agree_right (λ n. is_slot n term) (λ n. list_any (is_slot n) terms) s t a) i

any_same : {A : Type 0} (p q : A → Bool) → ((x : A) → p x ≡ q x) → (xs : List A)
    → list_any p xs ≡ list_any q xs
any_same p q same [] = refl
any_same p q same (x ∷ xs) = λ i. same x i || any_same p q same xs i

module _ (atom : ℕ → List ℕ → Bool) (objects : ℕ → List ℕ) where
  same_tuples : (test : ℕ → Bool) (body : List ℕ → Bool)
      → ((s t : List ℕ) → Agree test s t → body s ≡ body t)
      → (sorts : List ℕ) (first : ℕ) (s t : List ℕ) → Agree test s t
      → some_tuple objects body first sorts s ≡ some_tuple objects body first sorts t
  same_tuples test body same [] first s t a = same s t a
  same_tuples test body same (sort ∷ sorts) first s t a =
      any_same _ _
      (λ o. same_tuples test body same sorts (first + 1) (slice_set s first o) (slice_set t first o) (agree_set test s t first o a))
      (objects sort)

  mutual
    pub same_truth : (c : Condition) (s t : List ℕ) → Agree (touches c) s t
        → truth atom objects c s ≡ truth atom objects c t
    same_truth (Atom pred args) s t a = ap (atom pred) (same_objects s t args a)
    same_truth (Equal x y) s t a =
        λ i. same_object s t x (agree_left (λ n. is_slot n x) (λ n. is_slot n y) s t a) i
        == same_object s t y (agree_right (λ n. is_slot n x) (λ n. is_slot n y) s t a) i
    same_truth (every parts) s t a = same_all parts s t a
    same_truth (Any parts) s t a = same_any parts s t a
    same_truth (Not part) s t a = ap not (same_truth part s t a)
    same_truth (Exists first sorts body) s t a =
        same_tuples (touches body) (truth atom objects body) (same_truth body) sorts first s t a

    same_all : (cs : Conditions) (s t : List ℕ) → Agree (any_touches cs) s t
        → all_true atom objects cs s ≡ all_true atom objects cs t
    same_all none s t a = refl
    same_all (more part parts) s t a =
        λ i. same_truth part s t (agree_left (touches part) (any_touches parts) s t a) i
        && same_all parts s t (agree_right (touches part) (any_touches parts) s t a) i

    same_any : (cs : Conditions) (s t : List ℕ) → Agree (any_touches cs) s t
        → any_true atom objects cs s ≡ any_true atom objects cs t
    same_any none s t a = refl
    same_any (more part parts) s t a =
        λ i. same_truth part s t (agree_left (touches part) (any_touches parts) s t a) i
        || same_any parts s t (agree_right (touches part) (any_touches parts) s t a) i
