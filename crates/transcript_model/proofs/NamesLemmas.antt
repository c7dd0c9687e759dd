-- Tables of names: what stays where names come behind them, and the places of names.
use Rattle.std.proofs.Common.{◌≡◌, ℕ, zero, suc, ◌+◌, arith, Bool, true, false, cond, List, [], ◌∷◌, ◌++◌, refl, sym, subst, ap, ◌∙◌, Option, None, Some, slice_get, Contains, inl, inr, append_assoc, option_map}
use Rattle.std.proofs.lemmas.Iterator.Adapters.{position_from-zero}
use Rattle.std.proofs.lemmas.List.{append-nil}
use Rattle.std.proofs.lemmas.List.Elements.{Contains-append_left, Contains-append_right, Contains-append_cases}
use Rattle.std.proofs.lemmas.Map.Views.{Contains-from_any}
use Rattle.std.specs.List.{list_any, position, position_from}
use Rattle.task_model.proofs.KnownLemmas.{numbers_decided}
use Rattle.lemmas.proofs.Members.{place_of as place_in}
use Rattle.task_model.specs.Known.{same_numbers, with_name, with_names}
use Rattle.lemmas.specs.Lists.{AreDistinct}
use Rattle.task_model.specs.declared.stream.Instance.{Instance}
use Rattle.task_model.specs.declared.task.Task.{Task}
use Rattle.transcript_model.specs.Names.{place_of, places_of, stream_named, instance_of}
use Rattle.transcript_model.specs.declared.entry.Call.{Call}
use Rattle.lemmas.proofs.Numbers.{suc_same}
use Rattle.lemmas.proofs.Options.{and_then_some}

-- ---- options

pub map_some : {A B : Type 0} (f : A → B) (o : Option A) (b : B) → option_map f o ≡ Some b
    → (a : A) × (o ≡ Some a) × (f a ≡ b)
map_some f None b e = absurd (cc)
map_some f (Some a) b e = (a, refl, cc)

-- ---- lists that grow

-- ---- positions

from_kept : {A : Type 0} (p : A → Bool) (i : ℕ) (xs ys : List A) (k : ℕ)
    → position_from p i xs ≡ Some k
    → position_from p i (xs ++ ys) ≡ Some k
from_kept p i [] ys k e = absurd (cc)
from_kept p i (x ∷ xs) ys k e =
    elim (p x) as
    (λ b. cond b (Some i) (position_from p (i + 1) xs) ≡ Some k → cond b (Some i) (position_from p (i + 1) (xs ++ ys)) ≡ Some k) [
      | true ↦ λ h. h
      | false ↦ λ h. from_kept p (i + 1) xs ys k h
    ] e

from_at : {A : Type 0} (p : A → Bool) (i : ℕ) (xs : List A) (k : ℕ) → position_from p i xs ≡ Some k
    → (j : ℕ) × (x : A) × (k ≡ i + j) × (slice_get xs j ≡ Some x) × (p x ≡ true)
from_at p i [] k e = absurd (cc)
from_at p i (x ∷ xs) k e =
    elim (p x) as (λ b. p x ≡ b → cond b (Some i) (position_from p (i + 1) xs) ≡ Some k
    → (j : ℕ) × (y : _) × (k ≡ i + j) × (slice_get (x ∷ xs) j ≡ Some y) × (p y ≡ true)) [
      | true ↦ λ t h. let same : i ≡ k = cc in (0, x, omega arith, refl, t)
      | false ↦ λ t h. let r = from_at p (i + 1) xs k h in (suc r.0, r.1, omega (arith, r.2), r.3, r.4)
    ] refl e

-- the only place that passes is found
from_only : {A : Type 0} (p : A → Bool) (i : ℕ) (xs : List A) (j : ℕ) (x : A)
    → slice_get xs j ≡ Some x → p x ≡ true
    → ((m : ℕ) (y : A) → slice_get xs m ≡ Some y → p y ≡ true → m ≡ j) → position_from p i xs ≡ Some (i + j)
from_only p i [] j x e t only = absurd (cc)
from_only p i (z ∷ zs) zero x e t only =
    let same : z ≡ x = cc in let here : p z ≡ true = ap p same ∙ t in let none : i ≡ i + 0 = omega arith in
    rw here (ap Some none)
from_only p i (z ∷ zs) (suc j) x e t only =
    elim (p z) as (λ b. p z ≡ b → cond b (Some i) (position_from p (i + 1) zs) ≡ Some (i + suc j)) [
      | true ↦ λ here. let no : 0 ≡ suc j = only 0 z refl here in absurd (omega (arith, no))
      | false ↦ λ here. let sum : (i + 1) + j ≡ i + suc j = omega arith in
          from_only p (i + 1) zs j x e t (λ m y at passes. suc_same m j (only (suc m) y at passes)) ∙ ap Some sum
    ] refl

pub position_kept : {A : Type 0} (p : A → Bool) (xs ys : List A) (k : ℕ) → position p xs ≡ Some k
    → position p (xs ++ ys) ≡ Some k
position_kept p xs ys k e =
    position_from-zero p (xs ++ ys) ∙ from_kept p 0 xs ys k (sym (position_from-zero p xs) ∙ e)

pub position_at : {A : Type 0} (p : A → Bool) (xs : List A) (k : ℕ) → position p xs ≡ Some k
    → (x : A) × (slice_get xs k ≡ Some x) × (p x ≡ true)
position_at p xs k e =
    let r = from_at p 0 xs k (sym (position_from-zero p xs) ∙ e) in
    let same : r.0 ≡ k = omega (arith, r.2) in
    (r.1, subst (λ j. slice_get xs j ≡ Some r.1) same r.3, r.4)

pub position_only : {A : Type 0} (p : A → Bool) (xs : List A) (j : ℕ) (x : A)
    → slice_get xs j ≡ Some x → p x ≡ true
    → ((m : ℕ) (y : A) → slice_get xs m ≡ Some y → p y ≡ true → m ≡ j) → position p xs ≡ Some j
position_only p xs j x e t only =
    let none : 0 + j ≡ j = omega arith in position_from-zero p xs ∙ from_only p 0 xs j x e t only ∙ ap Some none

-- ---- names

pub place_at : (names : List (List ℕ)) (name : List ℕ) (k : ℕ) → place_of names name ≡ Some k
    → slice_get names k ≡ Some name
place_at names name k e = let r = position_at (same_numbers name) names k e in r.1 ∙ ap Some (sym ((numbers_decided name r.0).0 r.2))

pub place_only : (names : List (List ℕ)) (name : List ℕ) (k : ℕ) → AreDistinct names
    → slice_get names k ≡ Some name
    → place_of names name ≡ Some k
place_only names name k distinct at =
    position_only (same_numbers name) names k name at ((numbers_decided name name).1 refl)
    (λ m y there same. distinct m k name (there ∙ ap Some (sym ((numbers_decided name y).0 same))) at)

-- names behind the others leave them in front
pub with_name-front : (names : List (List ℕ)) (name : List ℕ)
    → (more : List (List ℕ)) × (with_name names name ≡ names ++ more)
with_name-front names name =
    elim (list_any (same_numbers name) names) as (λ b. (more : List (List ℕ)) × (cond b names (names ++ name ∷ []) ≡ names ++ more)) [
      | true ↦ ([], sym (append-nil names))
      | false ↦ (name ∷ [], refl)
    ]

pub with_names-front : (names more : List (List ℕ))
    → (added : List (List ℕ)) × (with_names names more ≡ names ++ added)
with_names-front names [] = ([], sym (append-nil names))
with_names-front names (name ∷ more) =
    let one = with_name-front names name in
    let rest = with_names-front (with_name names name) more in
    (one.0 ++ rest.0, rest.1 ∙ ap (λ ns. ns ++ rest.0) one.1 ∙ append_assoc names one.0 rest.0)

pub with_names-then : (names first second : List (List ℕ))
    → with_names names (first ++ second) ≡ with_names (with_names names first) second
with_names-then names [] second = refl
with_names-then names (name ∷ first) second = with_names-then (with_name names name) first second

pub name_member : (names : List (List ℕ)) (name : List ℕ)
    → list_any (same_numbers name) names ≡ true → Contains names name
name_member names name e = Contains-from_any (λ x y. (numbers_decided x y).0) name names e

-- each of the names is in the table behind which they were put
pub with_names-has : (names more : List (List ℕ)) (name : List ℕ) → Contains more name
    → Contains (with_names names more) name
with_names-has names [] name m = absurd (omega (arith, m.1))
with_names-has names (first ∷ more) name m =
    elim (Contains-append_cases (first ∷ []) more name m) [
      | inl here ↦
          subst (λ ns. Contains ns name) (sym (with_names-front (with_name names first) more).1)
          (Contains-append_left (with_name names first) _ name (has first (only first name here)))
      | inr later ↦ with_names-has (with_name names first) more name later
    ]
  where
    only : (first name : List ℕ) → Contains (first ∷ []) name → first ≡ name
    only first name (zero, lt, e) = e
    only first name (suc k, lt, e) = absurd (omega (arith, lt))

    in_one : (names : List (List ℕ)) (name : List ℕ) → Contains (with_name names name) name
    in_one names name =
        elim (list_any (same_numbers name) names) as
        (λ b. list_any (same_numbers name) names ≡ b → Contains (cond b names (names ++ name ∷ [])) name) [
          | true ↦ λ t. name_member names name t
          | false ↦ λ _. Contains-append_right names (name ∷ []) name (0, omega arith, refl)
        ] refl

    has : (first : List ℕ) → first ≡ name → Contains (with_name names first) name
    has first e = subst (λ n. Contains (with_name names first) n) e (in_one names first)

-- a name of the table has a place
pub place_found : (names : List (List ℕ)) (name : List ℕ) → AreDistinct names → Contains names name
    → (k : ℕ) × (place_of names name ≡ Some k)
place_found names name distinct m =
    let at = place_in names name m in (at.0, place_only names name at.0 distinct at.1)

-- ---- many places

pub places_kept : (names added more : List (List ℕ)) (places : List ℕ)
    → places_of names more ≡ Some places
    → places_of (names ++ added) more ≡ Some places
places_kept names added [] places e = e
places_kept names added (name ∷ more) places e =
    let first = and_then_some (λ object. option_map (λ objects. object ∷ objects) (places_of names more)) (place_of names name) places e in
    let rest = map_some (λ objects. first.0 ∷ objects) (places_of names more) places first.2 in
    rw (position_kept (same_numbers name) names added first.0 first.1, places_kept names added more rest.0 rest.1) (ap Some rest.2)

pub instance_kept : (task : Task) (names added : List (List ℕ)) (call : Call) (i : Instance)
    → instance_of task names call ≡ Some i
    → instance_of task (names ++ added) call ≡ Some i
instance_kept task names added call i e =
    let stream =
    and_then_some (λ stream. option_map (λ inputs. record { stream = stream; inputs = inputs }) (places_of names call.args))
    (stream_named task call.name) i e in
    let inputs = map_some (λ inputs. record { stream = stream.0; inputs = inputs }) (places_of names call.args) i stream.2 in
    rw (stream.1, places_kept names added call.args inputs.0 inputs.1) (ap Some inputs.2)
