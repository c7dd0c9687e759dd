-- The test of types, against what it stands for.
use Rattle.std.proofs.Common.{◌≡◌, ℕ, zero, suc, ◌+◌, Bool, true, false, not, ◌&&◌, ◌==◌, List, [], ◌∷◌, map, length, codes, refl, sym, ap, ◌∙◌, subst, arith, Option, Some, None, slice_get, eq-eqb}
use Rattle.std.specs.Cmp.{first_so, second_so}
use Rattle.std.specs.List.{list_any, list_all}
use Rattle.std.proofs.lemmas.Bool.{and_from, not-true, not_from_false}
use Rattle.std.proofs.lemmas.Map.Keys.{any_passes_from_place}
use Rattle.task_model.proofs.KnownLemmas.{numbers_decided}
use Rattle.task_model.specs.Fit as fit
use Rattle.task_model.specs.Known.{same_numbers}
use Rattle.task_model.specs.Streams.{is_empty}
use Rattle.task_model.specs.declared.domain.Sort.{Sort}
use Rattle.lemmas.proofs.ListTests.{all_at, all_from, number_found}
use Rattle.fit_check.proofs.TestsNameLemmas.{distinct_if, different_if}
use Rattle.fit_check.specs.Tests as tests

-- ---- names

pub names_if : (names : List (List ℕ)) → tests.are_fit_names names ≡ true → fit.AreNames names
names_if names e = record {
  each = first_so (list_all fit.is_name names) (tests.are_different names) e;
  distinct = distinct_if names (second_so (list_all fit.is_name names) (tests.are_different names) e);
}

pub names_from : (names : List (List ℕ)) → fit.AreNames names → tests.are_fit_names names ≡ true
names_from names all = and_from (list_all fit.is_name names) (tests.are_different names) all.each (different_if names all.distinct)

-- ---- the first type

nothing_in : (ns : List ℕ) → is_empty ns ≡ true → ns ≡ []
nothing_in [] e = refl
nothing_in (n ∷ ns) e = absurd (cc)

object_if : (o : Option Sort) → tests.is_object o ≡ true
    → o ≡ Some (record { name = codes "object"; above = [] })
object_if None e = absurd (cc)
object_if (Some s) e =
    λ i. Some (record {
      name =
          (numbers_decided s.name (codes "object")).0 (first_so (same_numbers s.name (codes "object")) (is_empty s.above) e) i;
      above = nothing_in s.above (second_so (same_numbers s.name (codes "object")) (is_empty s.above) e) i;
    })

object_from : (o : Option Sort) → o ≡ Some (record { name = codes "object"; above = [] })
    → tests.is_object o ≡ true
object_from o e = ap tests.is_object e

-- ---- supertypes

proper_if : (place : ℕ) (all : List Sort) → tests.are_proper place all ≡ true → (k : ℕ) (s : Sort)
    → slice_get all k ≡ Some s
    → list_any (λ a. a == place + k) s.above ≡ false
proper_if place [] e k s g = absurd (cc)
proper_if place (x ∷ xs) e zero s g =
    let same : x ≡ s = cc in
    let here : list_any (λ n. n == place) x.above ≡ false =
    not-true _ (first_so (not (list_any (λ n. n == place) x.above)) (tests.are_proper (place + 1) xs) e) in
    subst (λ (y : Sort). list_any (λ a. a == place + 0) y.above ≡ false) same
    (ap (λ n. list_any (λ a. a == n) x.above) (omega arith) ∙ here)
proper_if place (x ∷ xs) e (suc k) s g =
    ap (λ n. list_any (λ a. a == n) s.above) (omega arith)
    ∙ proper_if (place + 1) xs (second_so (not (list_any (λ n. n == place) x.above)) (tests.are_proper (place + 1) xs) e) k s g

proper_from : (place : ℕ) (all : List Sort)
    → ((k : ℕ) (s : Sort) → slice_get all k ≡ Some s → list_any (λ a. a == place + k) s.above ≡ false) → tests.are_proper place all ≡ true
proper_from place [] none = refl
proper_from place (x ∷ xs) none =
    and_from (not (list_any (λ n. n == place) x.above)) (tests.are_proper (place + 1) xs)
    (not_from_false (list_any (λ n. n == place) x.above) (ap (λ n. list_any (λ a. a == n) x.above) (omega arith) ∙ none 0 x refl))
    (proper_from (place + 1) xs (λ k s g. ap (λ n. list_any (λ a. a == n) s.above) (omega arith) ∙ none (suc k) s g))

closed_if : (all : List Sort) → list_all (tests.is_closed all) all ≡ true → (k a b : ℕ) (s t : Sort)
    → slice_get all k ≡ Some s
    → list_any (λ n. n == a) s.above ≡ true → slice_get all a ≡ Some t → list_any (λ n. n == b) t.above ≡ true
    → list_any (λ n. n == b) s.above ≡ true
closed_if all e k a b s t gs ma gt mb =
    let own : tests.is_closed all s ≡ true = all_at (tests.is_closed all) all k s e gs in
    let at_a = number_found s.above a ma in
    let among : tests.are_among (slice_get all a) s.above ≡ true =
    all_at (λ n. tests.are_among (slice_get all n) s.above) s.above at_a.0 a own at_a.1 in
    let inside : list_all (λ c. list_any (λ n. n == c) s.above) t.above ≡ true = ap (λ o. tests.are_among o s.above) (sym gt) ∙ among in
    let at_b = number_found t.above b mb in
    all_at (λ c. list_any (λ n. n == c) s.above) t.above at_b.0 b inside at_b.1

among_from : (o : Option Sort) (above : List ℕ)
    → ((t : Sort) → o ≡ Some t → (b : ℕ) → list_any (λ n. n == b) t.above ≡ true → list_any (λ n. n == b) above ≡ true)
    → tests.are_among o above ≡ true
among_from None above each = refl
among_from (Some t) above each =
    all_from (λ b. list_any (λ n. n == b) above) t.above
    (λ j b g. each t refl b (any_passes_from_place (λ n. n == b) t.above j b g (eq-eqb b b refl)))

closed_from : (all : List Sort)
    → ((k a b : ℕ) (s t : Sort) → slice_get all k ≡ Some s → list_any (λ n. n == a) s.above ≡ true → slice_get all a ≡ Some t
    → list_any (λ n. n == b) t.above ≡ true → list_any (λ n. n == b) s.above ≡ true)
    → list_all (tests.is_closed all) all ≡ true
closed_from all closed =
    all_from (tests.is_closed all) all
    (λ k s gs. all_from (λ a. tests.are_among (slice_get all a) s.above) s.above
    (λ i a ga. among_from (slice_get all a) s.above
    (λ t gt b mb. closed k a b s t gs (any_passes_from_place (λ n. n == a) s.above i a ga (eq-eqb a a refl)) gt mb)))

-- ---- all of it

abbrev named : List Sort → List (List ℕ)
named = map (λ (s : Sort). s.name)

abbrev placed : List Sort → Bool
placed all = list_all (λ (s : Sort). fit.are_places (length all) s.above) all

pub sorts_if : (all : List Sort) → tests.are_fit_sorts all ≡ true → fit.AreFitSorts all
sorts_if all e =
    let five = first_so (fit.is_short all && tests.is_object (slice_get all 0) && placed all && tests.are_proper 0 all
    && list_all (tests.is_closed all) all) (tests.are_fit_names (named all)) e in
    let four = first_so (fit.is_short all && tests.is_object (slice_get all 0) && placed all && tests.are_proper 0 all)
    (list_all (tests.is_closed all) all) five in
    let three = first_so (fit.is_short all && tests.is_object (slice_get all 0) && placed all) (tests.are_proper 0 all) four in
    let two = first_so (fit.is_short all && tests.is_object (slice_get all 0)) (placed all) three in
    record {
      names = names_if (named all) (second_so (fit.is_short all && tests.is_object (slice_get all 0) && placed all && tests.are_proper 0 all
          && list_all (tests.is_closed all) all) (tests.are_fit_names (named all)) e);
      first = object_if (slice_get all 0) (second_so (fit.is_short all) (tests.is_object (slice_get all 0)) two);
      short = first_so (fit.is_short all) (tests.is_object (slice_get all 0)) two;
      places = second_so (fit.is_short all && tests.is_object (slice_get all 0)) (placed all) three;
      proper = λ k s g. ap (λ n. list_any (λ a. a == n) s.above) (omega arith)
          ∙ proper_if 0 all (second_so (fit.is_short all && tests.is_object (slice_get all 0) && placed all) (tests.are_proper 0 all) four)
          k s g;
      closed = closed_if all (second_so (fit.is_short all && tests.is_object (slice_get all 0) && placed all && tests.are_proper 0 all)
          (list_all (tests.is_closed all) all) five);
    }

pub sorts_from : (all : List Sort) → fit.AreFitSorts all → tests.are_fit_sorts all ≡ true
sorts_from all are =
    and_from _ _ (and_from _ _ (and_from _ _ (and_from _ _ (and_from _ _ are.short (object_from (slice_get all 0) are.first)) are.places)
    (proper_from 0 all (λ k s g. ap (λ n. list_any (λ a. a == n) s.above) (omega arith) ∙ are.proper k s g)))
    (closed_from all are.closed)) (names_from (named all) are.names)
