-- Lists of facts: what is in them, and that facts stand once.
use Rattle.std.proofs.Common.{◌≡◌, ℕ, Bool, true, false, cond, filter, slice_get, ◌&&◌, ◌||◌, ◌==◌, arith, inl, inr, ◌↔◌, List, [], ◌∷◌, ◌++◌, refl, sym, subst, Contains, eqb-true, eq-eqb, append_assoc, zero, suc, ◌<◌, length, ap, Some, None, ◌+◌, ◌≤◌, length-append}
use Rattle.std.proofs.lemmas.List.Elements.{Contains-append_left, Contains-append_right, Contains-append_cases}
use Rattle.std.proofs.lemmas.Map.Views.{Contains-from_any, list_any-from_Contains}
use Rattle.std.specs.Bool.{Decides}
use Rattle.std.specs.Cmp.{IsEquivalence, decided, first_so, second_so, unsigned_Decides}
use Rattle.std.specs.Cmp.Lexicographic.{pointwise_decides}
use Rattle.std.proofs.lemmas.Bool.{and_from}
use Rattle.lemmas.proofs.Members.{distinct_push}
use Rattle.lemmas.proofs.Bools.{not_both, from_or_false}
use Rattle.task_model.specs.Known.{same_kind, same_fact, same_numbers, is_fact, with_fact, with_facts, same_value, IsIn, object_with, type_fact, atom_fact, is_match, matches_of, with_name, with_names}
use Rattle.task_model.specs.Laws.{AddsFacts}
use Rattle.task_model.specs.declared.fact.Fact.{Fact}
use Rattle.task_model.specs.declared.fact.Kind.{Kind}
use Rattle.task_model.specs.declared.fact.Kind.TheVariants.{Predicate, Sort}
use Rattle.task_model.specs.declared.task.Valued.{Valued}
use Rattle.lemmas.specs.Lists.{AreDistinct}
use Rattle.std.specs.List.{list_all, list_any}
use Rattle.lemmas.proofs.ListTests.{all_at}

kinds_same : (a b : Kind) → same_kind a b ≡ true → a ≡ b
kinds_same Predicate Predicate e = refl
kinds_same Sort Sort e = refl
kinds_same Predicate Sort e = absurd (cc)
kinds_same Sort Predicate e = absurd (cc)

kind_itself : (a : Kind) → same_kind a a ≡ true
kind_itself Predicate = refl
kind_itself Sort = refl

pub numbers_decided : (xs ys : List ℕ) → Decides (same_numbers xs ys) (xs ≡ ys)
numbers_decided = pointwise_decides unsigned_Decides

facts_same : (a b : Fact) → same_fact a b ≡ true → a ≡ b
facts_same a b e =
    let front = first_so (same_kind a.kind b.kind && (a.name == b.name)) (same_numbers a.args b.args) e in
    let args = second_so (same_kind a.kind b.kind && (a.name == b.name)) (same_numbers a.args b.args) e in
    let kind = first_so (same_kind a.kind b.kind) (a.name == b.name) front in
    let name = second_so (same_kind a.kind b.kind) (a.name == b.name) front in
    λ i. record
    { kind = kinds_same a.kind b.kind kind i; name = eqb-true a.name b.name name i; args = (numbers_decided a.args b.args).0 args i }

fact_itself : (a : Fact) → same_fact a a ≡ true
fact_itself a = and_from _ _ (and_from _ _ (kind_itself a.kind) (eq-eqb a.name a.name refl)) ((numbers_decided a.args a.args).1 refl)

pub fact_decided : (a b : Fact) → Decides (same_fact a b) (a ≡ b)
fact_decided a b = (facts_same a b, λ e. subst (λ x. same_fact a x ≡ true) e (fact_itself a))

pub facts_equivalence : IsEquivalence same_fact
facts_equivalence = decided same_fact fact_decided

pub fact_member : (facts : List Fact) (fact : Fact)
    → (is_fact facts fact ≡ true) ↔ Contains facts fact
fact_member facts fact =
    (Contains-from_any facts_same fact facts, list_any-from_Contains facts_equivalence fact facts)

-- ---- one fact more

pub with_fact-is : (facts : List Fact) (fact : Fact)
    → AddsFacts facts (fact ∷ []) (with_fact facts fact)
with_fact-is facts fact =
    elim (is_fact facts fact) as (λ b. is_fact facts fact ≡ b → AddsFacts facts (fact ∷ []) (cond b facts (facts ++ fact ∷ []))) [
      | true ↦ λ there. record {
        members = λ q. (
          Contains-append_left facts (fact ∷ []) q,
          λ m. elim (Contains-append_cases facts (fact ∷ []) q m) [ inl h ↦ h | inr h ↦ only facts fact q there h ],
        );
        distinct = λ d. d;
      }
      | false ↦ λ absent. record {
        members = λ q. (λ m. m, λ m. m);
        distinct =
            λ d. distinct_push facts fact d (λ m. not_both _ ((fact_member facts fact).1 m) absent);
      }
    ] refl
  where
    only : (facts : List Fact) (fact q : Fact) → is_fact facts fact ≡ true → Contains (fact ∷ []) q
        → Contains facts q
    only facts fact q there m =
        let found : (same_fact q fact || false) ≡ true = list_any-from_Contains facts_equivalence q (fact ∷ []) m in
        let same : q ≡ fact = facts_same q fact (from_or_false (same_fact q fact) found) in
        subst (Contains facts) (sym same) ((fact_member facts fact).0 there)

-- ---- many facts more

from_left : (xs ys more : List Fact) (q : Fact) → (Contains xs q → Contains ys q)
    → Contains (xs ++ more) q → Contains (ys ++ more) q
from_left xs ys more q goes m =
    elim (Contains-append_cases xs more q m) [ inl h ↦ Contains-append_left ys more q (goes h) | inr h ↦ Contains-append_right ys more q h ]

pub with_facts-is : (facts more : List Fact) → AddsFacts facts more (with_facts facts more)
with_facts-is facts [] = record {
  members = λ q. (
    Contains-append_left facts [] q,
    λ m. elim (Contains-append_cases facts [] q m) [ inl h ↦ h | inr h ↦ absurd (omega (arith, h.1)) ],
  );
  distinct = λ d. d;
}
with_facts-is facts (fact ∷ more) =
    let one = with_fact-is facts fact in
    let rest = with_facts-is (with_fact facts fact) more in
    let joined : (facts ++ fact ∷ []) ++ more ≡ facts ++ fact ∷ more = append_assoc facts (fact ∷ []) more in
    record {
      members = λ q. (
        λ m. subst (λ xs. Contains xs q) joined
            (from_left (with_fact facts fact) (facts ++ fact ∷ []) more q ((one.members q).0) ((rest.members q).0 m)),
        λ m. (rest.members q).1
            (from_left (facts ++ fact ∷ []) (with_fact facts fact) more q ((one.members q).1) (subst (λ xs. Contains xs q) (sym joined) m)),
      );
      distinct = λ d. rest.distinct (one.distinct d);
    }

-- a fact stays one where more are known
pub facts_kept : (facts more : List Fact) (fact : Fact) → is_fact facts fact ≡ true
    → is_fact (with_facts facts more) fact ≡ true
facts_kept facts more fact e =
    (fact_member (with_facts facts more) fact).1
    (((with_facts-is facts more).members fact).1 (Contains-append_left facts more fact ((fact_member facts fact).0 e)))

pub facts_then : (facts first second : List Fact)
    → with_facts facts (first ++ second) ≡ with_facts (with_facts facts first) second
facts_then facts [] second = refl
facts_then facts (f ∷ first) second = facts_then (with_fact facts f) first second

-- ---- values

pub values_same : (a b : Valued) → same_value a b ≡ true → a ≡ b
values_same a b e =
    let front = first_so ((a.func == b.func) && same_numbers a.args b.args) (a.value == b.value) e in
    let value = second_so ((a.func == b.func) && same_numbers a.args b.args) (a.value == b.value) e in
    let func = first_so (a.func == b.func) (same_numbers a.args b.args) front in
    let args = second_so (a.func == b.func) (same_numbers a.args b.args) front in
    λ i. record
    { func = eqb-true a.func b.func func i; args = (numbers_decided a.args b.args).0 args i; value = eqb-true a.value b.value value i }

pub value_itself : (a : Valued) → same_value a a ≡ true
value_itself a =
    and_from _ _ (and_from _ _ (eq-eqb a.func a.func refl) ((numbers_decided a.args a.args).1 refl)) (eq-eqb a.value a.value refl)

pub value_decided : (a b : Valued) → Decides (same_value a b) (a ≡ b)
value_decided a b = (values_same a b, λ e. subst (λ x. same_value a x ≡ true) e (value_itself a))

pub values_equivalence : IsEquivalence same_value
values_equivalence = decided same_value value_decided

-- ---- objects and names

pub object_itself : (sort object : ℕ) → object_with sort (type_fact sort object) ≡ Some object
object_itself sort object = ap (λ b. cond b (Some object) None) (eq-eqb sort sort refl)

pub below_names : (names : List (List ℕ)) (object : ℕ) → IsIn names object → object < length names
below_names [] object named = absurd (cc)
below_names (n ∷ names) zero named = omega arith
below_names (n ∷ names) (suc object) named = omega (arith, below_names names object named)

pub in_names : (names : List (List ℕ)) (object : ℕ) → object < length names → IsIn names object
in_names [] object lt = absurd (omega arith)
in_names (n ∷ ns) zero lt = refl
in_names (n ∷ ns) (suc object) lt =
    let below : object < length ns = omega arith in in_names ns object below

-- ---- names behind others, each once

names_equivalence : IsEquivalence same_numbers
names_equivalence = decided same_numbers numbers_decided

pub with_name-distinct : (names : List (List ℕ)) (name : List ℕ) → AreDistinct names
    → AreDistinct (with_name names name)
with_name-distinct names name distinct =
    elim (list_any (same_numbers name) names) as
    (λ b. list_any (same_numbers name) names ≡ b → AreDistinct (cond b names (names ++ name ∷ []))) [
      | true ↦ λ _. distinct
      | false ↦ λ absent. distinct_push names name distinct (λ m. not_both _ (list_any-from_Contains names_equivalence name names m) absent)
    ] refl

pub with_names-distinct : (names more : List (List ℕ)) → AreDistinct names
    → AreDistinct (with_names names more)
with_names-distinct names [] distinct = distinct
with_names-distinct names (name ∷ more) distinct =
    with_names-distinct (with_name names name) more (with_name-distinct names name distinct)

pub length_with_name : (names : List (List ℕ)) (name : List ℕ)
    → length (with_name names name) ≤ length names + 1
length_with_name names name =
    elim (list_any (same_numbers name) names) as (λ b. length (cond b names (names ++ name ∷ [])) ≤ length names + 1) [
      | true ↦ omega arith
      | false ↦ omega (arith, length-append names (name ∷ []))
    ]

pub length_with_names : (names more : List (List ℕ))
    → length (with_names names more) ≤ length names + length more
length_with_names names [] = omega arith
length_with_names names (name ∷ more) =
    omega (arith, length_with_name names name, length_with_names (with_name names name) more)

-- ---- the atoms that have an object at a place

-- such a fact is the predicate's atom of its arguments
pub match_is : (pred place object : ℕ) (f : Fact) → is_match pred place object f ≡ true
    → f ≡ atom_fact pred f.args
match_is pred place object f e =
    let front = first_so (same_kind Predicate f.kind && (f.name == pred)) _ e in
    let kind = kinds_same Predicate f.kind (first_so (same_kind Predicate f.kind) (f.name == pred) front) in
    let name = eqb-true f.name pred (second_so (same_kind Predicate f.kind) (f.name == pred) front) in
    λ i. record { kind = sym kind i; name = name i; args = f.args }

all_pass : {A : Type 0} (p : A → Bool) (xs : List A) → list_all p (filter p xs) ≡ true
all_pass p [] = refl
all_pass p (x ∷ xs) =
    elim (p x) as (λ b. p x ≡ b → list_all p (cond b (x ∷ filter p xs) (filter p xs)) ≡ true) [
      | true ↦ λ e. and_from (p x) (list_all p (filter p xs)) e (all_pass p xs)
      | false ↦ λ e. all_pass p xs
    ] refl

-- and so is each that is gone through by its number
pub matched_is : (facts : List Fact) (pred place object number : ℕ) (f : Fact)
    → slice_get (matches_of facts pred place object) number ≡ Some f → f ≡ atom_fact pred f.args
matched_is facts pred place object number f at =
    let passes = is_match pred place object in
    match_is pred place object f
    (all_at passes (matches_of facts pred place object) number f (all_pass passes facts) at)
