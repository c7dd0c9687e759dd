-- The atoms of the goal: what a state lacks of them, and what a step adds.
use Rattle.std.proofs.Common.{◌≡◌, ℕ, zero, suc, inl, inr, Bool, true, false, not, T, cond, ◌&&◌, ◌||◌, List, [], ◌∷◌, map, refl, sym, ap, ◌∙◌, arith, Option, None, Some, slice_get, count_by, Contains}
use Rattle.std.proofs.lemmas.Bool.{or_cases}
use Rattle.std.proofs.lemmas.Option.{same_Some}
use Rattle.std.specs.Cmp.{Equal-is, eq_by_cmp_equiv, second_so, tied_itself}
use Rattle.std.specs.FinMap as finite
use Rattle.std.specs.FinMap.Entries as entries
use Rattle.std.specs.List.{cons_option, filter_map, list_any}
use Rattle.std.specs.Ordering.{eq_by_cmp, is_lt}
use Rattle.best_first.proofs.ReachLemmas.{atom_missed}
use Rattle.grounder.specs.Parts.{fluent_in, tops_of}
use Rattle.lemmas.proofs.Ascending.{contains_cases, contains_here, contains_later, contains_none}
use Rattle.lemmas.proofs.Bools.{not_both}
use Rattle.lemmas.proofs.Counts.{count_head}
use Rattle.lemmas.proofs.Distinct.{distinct_cons}
use Rattle.lemmas.proofs.ListTests.{any_found}
use Rattle.lemmas.proofs.Members.{distinct_nil, member_at, place_of}
use Rattle.lemmas.specs.Lists.{AreDistinct}
use Rattle.task_model.proofs.StateLemmas.{atoms_tied, atoms_total, contains-changed, contains-from_list}
use Rattle.task_model.specs.AtomOrder.{atom_cmp}
use Rattle.task_model.specs.Known.{Known}
use Rattle.task_model.specs.Plans.{IsGoal}
use Rattle.task_model.specs.State.{Atoms, contains, from_list, items, with_atoms, without_atoms}
use Rattle.task_model.specs.Truth.{slots_of}
use Rattle.task_model.specs.declared.fact.Atom.{Atom}
use Rattle.task_model.specs.declared.task.Task.{Task}
use Rattle.optimal_search.specs.Bounds.{goal_atoms, missing}

-- ---- lists

pub any_there : {A : Type 0} (p : A → Bool) (xs : List A) (i : ℕ) (x : A) → slice_get xs i ≡ Some x → p x ≡ true
    → list_any p xs ≡ true
any_there p [] i x at is = absurd (cc)
any_there p (y ∷ ys) zero x at is =
    ap (λ z. p z || list_any p ys) (same_Some y x at) ∙ ap (λ b. b || list_any p ys) is
any_there p (y ∷ ys) (suc i) x at is = by (p y) (any_there p ys i x at is)
  where
    by : (a : Bool) {b : Bool} → b ≡ true → (a || b) ≡ true
    by true e = refl
    by false e = e

-- it is given of one of the members
abbrev pub IsGivenOf : {A B : Type 0} → (A → Option B) → List A → B → Type 0
IsGivenOf {A} f xs y = (j : ℕ) × (x : A) × (slice_get xs j ≡ Some x) × (f x ≡ Some y)

given_cases : {A B : Type 0} (f : A → Option B) (x : A) (xs : List A) (y : B) (o : Option B) → f x ≡ o → (i : ℕ)
    → slice_get (cons_option o (filter_map f xs)) i ≡ Some y
    → ((k : ℕ) → slice_get (filter_map f xs) k ≡ Some y → IsGivenOf f xs y) → IsGivenOf f (x ∷ xs) y
given_cases f x xs y None e i at later = let r = later i at in (suc r.0, r.1, r.2, r.3)
given_cases f x xs y (Some z) e zero at later = (0, x, refl, e ∙ at)
given_cases f x xs y (Some z) e (suc i) at later = let r = later i at in (suc r.0, r.1, r.2, r.3)

pub from_given : {A B : Type 0} (f : A → Option B) (xs : List A) (i : ℕ) (y : B) → slice_get (filter_map f xs) i ≡ Some y
    → IsGivenOf f xs y
from_given f [] i y at = absurd (cc)
from_given f (x ∷ xs) i y at = given_cases f x xs y (f x) refl i at (λ k e. from_given f xs k y e)

-- where no member passes, none is counted
pub count_none : {A : Type 0} (p : A → Bool) (xs : List A) → ((x : A) → Contains xs x → p x ≡ false) → count_by p xs ≡ 0
count_none p [] none = refl
count_none p (x ∷ xs) none =
    let head : cond {A = ℕ} (p x) 1 0 ≡ 0 = ap (λ b. cond b 1 0) (none x (contains_here x xs)) in
    let rest = count_none p xs (λ y c. none y (contains_later x xs y c)) in
    omega (arith, count_head p x xs, head, rest)

-- ---- sets

self_tied : (a : Atom) → eq_by_cmp atom_cmp a a ≡ true
self_tied a = (eq_by_cmp_equiv atoms_total).refl a

-- what stands among the items is in the set
pub item_there : (s : Atoms) (a : Atom) → Contains (items s) a → contains s a ≡ true
item_there s a c =
    let at = place_of (items s) a c in
    finite.contains_key-keys s a ∙ any_there (eq_by_cmp atom_cmp a) (items s) at.0 a at.1 (self_tied a)

-- and is tied to what stands in the list
tied_to : (ks : List Atom) (a : Atom) → list_any (eq_by_cmp atom_cmp a) ks ≡ true → (i : ℕ) × (slice_get ks i ≡ Some a)
tied_to ks a any =
    let found = any_found (eq_by_cmp atom_cmp a) ks any in
    let same : a ≡ found.1 = atoms_tied a found.1 ((Equal-is (atom_cmp a found.1)).0 found.3) in
    (found.0, found.2 ∙ ap Some (sym same))

-- what stands in the list is in its set, and the other way round
pub listed_there : (ks : List Atom) (a : Atom) → Contains ks a → contains (from_list ks) a ≡ true
listed_there ks a c =
    let at = place_of ks a c in
    contains-from_list ks a ∙ any_there (eq_by_cmp atom_cmp a) ks at.0 a at.1 (self_tied a)

pub there_listed : (ks : List Atom) (a : Atom) → contains (from_list ks) a ≡ true → Contains ks a
there_listed ks a is = let at = tied_to ks a (sym (contains-from_list ks a) ∙ is) in member_at ks at.0 a at.1

abbrev keys_of : List (Atom × Unit {0}) → List Atom
keys_of es = map (λ (e : Atom × Unit {0}). e.0) es

below_cases : (x : Atom) (e : Atom × Unit {0}) (es : List (Atom × Unit {0})) (b : Bool) → is_lt (atom_cmp x e.0) ≡ b
    → T (b && entries.below_all atom_cmp x es) → (T (entries.below_all atom_cmp x es) → ¬ (Contains (keys_of es) x))
    → ¬ (Contains (keys_of (e ∷ es)) x)
below_cases x e es true less rest later c =
    elim (contains_cases e.0 (keys_of es) x c) [
      | inl same ↦
          let tied : is_lt (atom_cmp x e.0) ≡ false = ap (λ a. is_lt (atom_cmp x a)) same ∙ ap is_lt (tied_itself atoms_total x) in
          not_both (is_lt (atom_cmp x e.0)) less tied
      | inr k ↦ later rest k
    ]
below_cases x e es false less rest later c = absurd rest

below_apart : (x : Atom) (es : List (Atom × Unit {0})) → T (entries.below_all atom_cmp x es) → ¬ (Contains (keys_of es) x)
below_apart x [] below c = contains_none x c
below_apart x (e ∷ es) below c =
    below_cases x e es (is_lt (atom_cmp x e.0)) refl below (λ rest k. below_apart x es rest k) c

keys_distinct : (es : List (Atom × Unit {0})) → T (entries.is_sorted atom_cmp es)
    → AreDistinct (keys_of es)
keys_distinct [] sorted = distinct_nil
keys_distinct (e ∷ es) sorted =
    let parts = both (entries.below_all atom_cmp e.0 es) (entries.is_sorted atom_cmp es) sorted in
    distinct_cons e.0 (keys_of es) (keys_distinct es parts.1) (below_apart e.0 es parts.0)
  where
    both : (a b : Bool) → T (a && b) → T a × T b
    both true b h = (tt, h)
    both false b h = absurd h

pub distinct_items : (s : Atoms) → AreDistinct (items s)
distinct_items s = keys_distinct (finite.entries s) (finite.entries_sorted s)

-- ---- the goal

-- where the goal is true, none of its atoms is missing
pub goal_there : (task : Task) (known : Known) (state : Atoms) (a : Atom) → IsGoal task known state
    → Contains (items (goal_atoms task)) a → contains state a ≡ true
goal_there task known state a goal c =
    let slots = slots_of [] in
    let f = fluent_in task.domain slots in
    let ks = filter_map f (tops_of task.problem.goal) in
    let any = sym (contains-from_list ks a) ∙ item_there (goal_atoms task) a c in
    let at = tied_to ks a any in
    let part = from_given f (tops_of task.problem.goal) at.0 a at.1 in
    by (contains state a) refl
    (λ none. atom_missed task.domain known state task.problem.goal [] part.0 part.1 a part.2 part.3 none state (λ b there. there) goal)
  where
    by : (b : Bool) → contains state a ≡ b → (contains state a ≡ false → ⊥) → contains state a ≡ true
    by true e absent = e
    by false e absent = absurd (absent e)

pub goal_missing : (task : Task) (known : Known) (state : Atoms) → IsGoal task known state
    → missing (goal_atoms task) state ≡ 0
goal_missing task known state goal =
    count_none (λ a. not (contains state a)) (items (goal_atoms task)) (λ a c. ap not (goal_there task known state a goal c))

-- ---- a step

-- an atom that was missing and is there came
pub came : (before : Atoms) (gone come : List Atom) (a : Atom) → contains before a ≡ false
    → contains (with_atoms (without_atoms before gone) come) a ≡ true → Contains come a
came before gone come a was is =
    let split : (list_any (eq_by_cmp atom_cmp a) come || (not (list_any (eq_by_cmp atom_cmp a) gone) && contains before a)) ≡ true =
    sym (contains-changed before gone come a) ∙ is in
    elim (or_cases (list_any (eq_by_cmp atom_cmp a) come) (not (list_any (eq_by_cmp atom_cmp a) gone) && contains before a) split) [
      | inl new ↦ let at = tied_to come a new in member_at come at.0 a at.1
      | inr old ↦ absurd (not_both (contains before a) (second_so (not (list_any (eq_by_cmp atom_cmp a) gone)) (contains before a) old) was)
    ]
