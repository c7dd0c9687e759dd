-- Parts of a condition, seen from the front.
use Rattle.std.proofs.Common.{◌≡◌, ℕ, zero, suc, ◌+◌, ◌<◌, ◌≤◌, Bool, true, false, ◌&&◌, ◌||◌, ◌==◌, List, [], ◌∷◌, ◌++◌, length, get_or, nat_le, refl, sym, ap, ◌∙◌, arith}
use Rattle.std.specs.List.{list_any, list_all}
use Rattle.task_model.specs.Condition.{Condition, Conditions, Atom, Equal, All as every, Any, Not, Exists, none, more, parts_of, size_of, sizes_of}
use Rattle.task_model.specs.Fit as fit
use Rattle.lemmas.specs.Lists.{numbers_from}
use Rattle.task_model.specs.declared.condition.Term.{Term}
use Rattle.task_model.specs.declared.condition.Term.TheVariants.{Slot, Object}
use Rattle.task_model.specs.declared.domain.Domain.{Domain}
use Rattle.std.proofs.lemmas.Bool.{lt-leb, le-leb}

pub count_parts : (cs : List Condition) → fit.count_of (parts_of cs) ≡ length cs
count_parts [] = refl
count_parts (c ∷ cs) = omega (arith, count_parts cs)

-- ---- only which slots have values matters

module _ (a b : List ℕ) (same : (n : ℕ) → list_any (λ slot. slot == n) a ≡ list_any (λ slot. slot == n) b) where
  same_term : (objects : ℕ) (t : Term) → fit.is_fit_term objects a t ≡ fit.is_fit_term objects b t
  same_term objects (Slot n) = same n
  same_term objects (Object o) = refl

  same_terms : (objects : ℕ) (ts : List Term)
      → list_all (fit.is_fit_term objects a) ts ≡ list_all (fit.is_fit_term objects b) ts
  same_terms objects [] = refl
  same_terms objects (t ∷ ts) = λ i. same_term objects t i && same_terms objects ts i

same_behind : (a b front : List ℕ)
    → ((n : ℕ) → list_any (λ slot. slot == n) a ≡ list_any (λ slot. slot == n) b) → (n : ℕ)
    → list_any (λ slot. slot == n) (front ++ a) ≡ list_any (λ slot. slot == n) (front ++ b)
same_behind a b [] same n = same n
same_behind a b (x ∷ xs) same n = ap (λ t. (x == n) || t) (same_behind a b xs same n)

module _ (domain : Domain) (objects : ℕ) where
  mutual
    pub same_sound : (c : Condition) (a b : List ℕ)
        → ((n : ℕ) → list_any (λ slot. slot == n) a ≡ list_any (λ slot. slot == n) b)
        → fit.is_sound domain objects c a ≡ fit.is_sound domain objects c b
    same_sound (Atom pred args) a b same =
        ap (λ t. fit.has_arity domain.predicates pred (length args) && t) (same_terms a b same objects args)
    same_sound (Equal s t) a b same =
        λ i. same_term a b same objects s i && same_term a b same objects t i
    same_sound (every parts) a b same =
        ap (λ t. nat_le (fit.count_of parts) 8388608 && t) (all_same_sound parts a b same)
    same_sound (Any parts) a b same =
        ap (λ t. nat_le (fit.count_of parts) 8388608 && t) (all_same_sound parts a b same)
    same_sound (Not part) a b same = same_sound part a b same
    same_sound (Exists first sorts body) a b same =
        ap (λ t. nat_le (first + length sorts) 16 && fit.are_places (length domain.sorts) sorts && t)
        (same_sound body (numbers_from first (length sorts) ++ a)
        (numbers_from first (length sorts) ++ b) (same_behind a b (numbers_from first (length sorts)) same))

    all_same_sound : (cs : Conditions) (a b : List ℕ)
        → ((n : ℕ) → list_any (λ slot. slot == n) a ≡ list_any (λ slot. slot == n) b)
        → fit.are_sound domain objects cs a ≡ fit.are_sound domain objects cs b
    all_same_sound none a b same = refl
    all_same_sound (more part parts) a b same =
        λ i. same_sound part a b same i && all_same_sound parts a b same i

-- ---- depth and size

pub shallow : (m : ℕ) (c : Condition) → (1 ≤ m → ⊥) → nat_le (fit.depth_of c) m ≡ false
shallow m c nothing = lt-leb (fit.depth_of c) m (omega (arith, positive c))
  where
    positive : (c : Condition) → 1 ≤ fit.depth_of c
    positive (Atom pred args) = omega arith
    positive (Equal s t) = omega arith
    positive (every parts) = omega arith
    positive (Any parts) = omega arith
    positive (Not part) = omega arith
    positive (Exists first sorts body) = omega arith

pub part_smaller : (cs : List Condition) (i : ℕ) (c : Condition) → i < length cs → c ≡ get_or cs i c
    → size_of c ≤ sizes_of (parts_of cs)
part_smaller [] i c h e = absurd (omega arith)
part_smaller (x ∷ xs) zero c h e = omega (arith, ap size_of e)
part_smaller (x ∷ xs) (suc i) c h e = omega (arith, part_smaller xs i c (omega arith) e)

-- slots that get values around a body
pub same_inside : (domain : Domain) (objects : ℕ) (first : ℕ) (sorts : List ℕ) (body : Condition) (slots after : List ℕ)
    → first + length sorts ≤ 16 → fit.are_places (length domain.sorts) sorts ≡ true
    → ((n : ℕ) → list_any (λ slot. slot == n) after ≡ list_any (λ slot. slot == n) (numbers_from first (length sorts) ++ slots))
    → fit.is_sound domain objects body after ≡ fit.is_sound domain objects (Exists first sorts body) slots
same_inside domain objects first sorts body slots after few places same =
    same_sound domain objects body after (numbers_from first (length sorts) ++ slots) same
    ∙ sym (λ i. le-leb (first + length sorts) 16 few i && places i
    && fit.is_sound domain objects body (numbers_from first (length sorts) ++ slots))

pub short_parts : (cs : List Condition) (b : Bool) → fit.is_short cs ≡ b
    → b ≡ nat_le (fit.count_of (parts_of cs)) 8388608
short_parts cs b e = sym e ∙ ap (λ n. nat_le n 8388608) (sym (count_parts cs))
