-- The places that a listing gives to numbers.
use Rattle.std.proofs.Common.{◌≡◌, inl, inr, ℕ, zero, suc, ◌+◌, ◌-◌, ◌<◌, ◌≤◌, ◌==◌, ◌↔◌, true, false, List, [], ◌∷◌, ◌++◌, length, take, drop, set, get_or, replicate, refl, sym, ap, ◌∙◌, subst, arith, Contains, Option, Some, None, slice_get, eqb-true, eq-eqb, is_none, IsTrue}
use Rattle.std.proofs.lemmas.Bool.{cases_lt, ltb-true, lt-ltb, or_right}
use Rattle.std.proofs.lemmas.List.{get_or-set_same, get_or-set_other}
use Rattle.std.proofs.lemmas.List.Elements.{Contains-append_right}
use Rattle.std.proofs.lemmas.Option.{get_or_from_slice_get, none-some, same_Some, slice_get_within}
use Rattle.std.specs.List.{list_all, list_any}
use Rattle.lemmas.proofs.Ascending.{contains_here}
use Rattle.lemmas.proofs.ListTests.{all_at, all_from, any_found}
use Rattle.lemmas.proofs.Members.{get_append, get_behind, get_pushed, member_at, place_of, push_cases}
use Rattle.plan_deorder.specs.Listed.{ArePlaces, is_pair_kept, is_less, place_of_number}
use Rattle.plan_deorder.specs.Orders.{IsOrderListing, Keeps, Pair}

-- ---- places

pub at_number : (places : List (Option ℕ)) (n : ℕ) → 1 ≤ n → place_of_number places n ≡ get_or places (n - 1) None
at_number places zero some = absurd (omega (arith, some))
at_number places (suc n) some = ap (λ k. get_or places k None) (let e : n ≡ suc n - 1 = omega arith in e)

none_past : (places : List (Option ℕ)) (n : ℕ) → length places ≤ n → get_or places n None ≡ None
none_past [] n le = refl
none_past (p ∷ ps) zero le = absurd (omega (arith, le))
none_past (p ∷ ps) (suc n) le = none_past ps n (omega (arith, le))

none_of_none : (count n k : ℕ) → get_or (replicate count None) n None ≡ Some k → ⊥
none_of_none zero n k e = none-some k e
none_of_none (suc count) zero k e = none-some k e
none_of_none (suc count) (suc n) k e = none_of_none count n k e

-- nothing is listed yet
pub none_listed : (count : ℕ) → ArePlaces [] (replicate count None)
none_listed count = record {
  found = λ k n at. absurd (none-some n at);
  there = λ n k at. absurd (none n k at);
}
  where
    none : (n k : ℕ) → place_of_number (replicate count None) n ≡ Some k → ⊥
    none zero k e = none-some k e
    none (suc n) k e = none_of_none count n k e

within : (places : List (Option ℕ)) (n k : ℕ) → place_of_number places n ≡ Some k → (1 ≤ n) × (n ≤ length places)
within places zero k e = absurd (none-some k e)
within places (suc n) k e =
    elim (cases_lt n (length places)) [
      | inl lt ↦ (omega arith, omega (arith, lt))
      | inr past ↦ absurd (none-some k (sym (none_past places n past) ∙ e))
    ]

set_same : (places : List (Option ℕ)) (n : ℕ) (v : Option ℕ) → 1 ≤ n → n ≤ length places
    → place_of_number (set places (n - 1) v) n ≡ v
set_same places n v some few =
    at_number (set places (n - 1) v) n some
    ∙ get_or-set_same places (n - 1) v None (let lt : n - 1 < length places = omega (arith, some, few) in lt)

set_other : (places : List (Option ℕ)) (n m : ℕ) (v : Option ℕ) → 1 ≤ n → ¬ (m ≡ n)
    → place_of_number (set places (n - 1) v) m ≡ place_of_number places m
set_other places n zero v some other = refl
set_other places n (suc m) v some other =
    get_or-set_other places (n - 1) m v None (λ e. other (omega (arith, e, some)))

-- ---- a number more

module _ (listing : List ℕ) (places : List (Option ℕ)) (p : ArePlaces listing places) (n : ℕ) where
  -- it has no place yet
  pub noted : place_of_number places n ≡ None → 1 ≤ n → n ≤ length places
      → ArePlaces (listing ++ n ∷ []) (set places (n - 1) (Some (length listing)))
  noted fresh some few = record {
    found = λ k m at. elim (push_cases listing n k m at) [
      | inl h ↦
          let other : ¬ (m ≡ n) = λ same. none-some k (sym fresh ∙ ap (place_of_number places) (sym same) ∙ p.found k m h) in
          set_other places n m (Some (length listing)) some other ∙ p.found k m h
      | inr h ↦
          ap (place_of_number (set places (n - 1) (Some (length listing)))) h.1
          ∙ set_same places n (Some (length listing)) some few ∙ ap Some (sym h.0)
    ];
    there = λ m k at. elim (m == n) as (λ b. (m == n) ≡ b → slice_get (listing ++ n ∷ []) k ≡ Some m) [
      | true ↦ λ e.
          let same : m ≡ n = eqb-true m n e in
          let here : Some (length listing) ≡ Some k =
          sym (set_same places n (Some (length listing)) some few)
          ∙ ap (place_of_number (set places (n - 1) (Some (length listing)))) (sym same) ∙ at in
          get_pushed listing n k (sym (same_Some (length listing) k here)) ∙ ap Some (sym same)
      | false ↦ λ e.
          let other : ¬ (m ≡ n) = λ same. let bad : true ≡ false = sym (eq-eqb m n same) ∙ e in absurd (cc) in
          get_append listing (n ∷ []) k m
          (p.there m k (sym (set_other places n m (Some (length listing)) some other) ∙ at))
    ] refl;
  }

  -- it is none of those that are listed
  pub out_of_range : (count : ℕ) (more : List ℕ) → ¬ ((1 ≤ n) × (n ≤ count)) → ¬ (IsOrderListing count (listing ++ n ∷ more))
  out_of_range count more out l =
      out ((l.each n).0 (Contains-append_right listing (n ∷ more) n (contains_here n more)))

  -- it was listed before
  pub listed_twice : (count k : ℕ) (more : List ℕ) → place_of_number places n ≡ Some k
      → ¬ (IsOrderListing count (listing ++ n ∷ more))
  listed_twice count k more at l =
      let there = p.there n k at in
      let same = l.once k (length listing + 0) n (get_append listing (n ∷ more) k n there) (get_behind listing (n ∷ more) 0 n refl) in
      let lt = slice_get_within listing k n there in
      omega (arith, same, lt)

-- ---- a number that is refused

cut_here : (listing : List ℕ) (place : ℕ) → place < length listing
    → take place listing ++ get_or listing place 0 ∷ drop (suc place) listing ≡ listing
cut_here [] place lt = absurd (omega (arith, lt))
cut_here (n ∷ ns) zero lt = refl
cut_here (n ∷ ns) (suc place) lt = ap (λ ms. n ∷ ms) (cut_here ns place (omega (arith, lt)))

pub refused_here : (listing : List ℕ) (place count : ℕ) → place < length listing
    → ((more : List ℕ) → ¬ (IsOrderListing count (take place listing ++ get_or listing place 0 ∷ more))) → ¬ (IsOrderListing count listing)
refused_here listing place count lt refused l =
    refused (drop (suc place) listing) (subst (IsOrderListing count) (sym (cut_here listing place lt)) l)

-- ---- all numbers

none_there : (places : List (Option ℕ)) (k : ℕ) → k < length places → get_or places k None ≡ None
    → list_any is_none places ≡ true
none_there [] k lt e = absurd (omega (arith, lt))
none_there (None ∷ ps) zero lt e = refl
none_there (Some x ∷ ps) zero lt e = absurd (none-some x (sym e))
none_there (p ∷ ps) (suc k) lt e = or_right (is_none p) (list_any is_none ps) (none_there ps k (omega (arith, lt)) e)

module _ (listing : List ℕ) (places : List (Option ℕ)) (p : ArePlaces listing places) (count : ℕ)
    (long : length places ≡ count) where
  -- each number has a place
  pub all_listed : list_any is_none places ≡ false → IsOrderListing count listing
  all_listed all = record {
    each = λ n. (
      λ c. let at = place_of listing n c in
          let r = within places n at.0 (p.found at.0 n at.1) in
          (r.0, omega (arith, r.1, long)),
      λ r. by n r.0 r.1 (place_of_number places n) refl,
    );
    once = λ i j n e f. same_Some i j (sym (p.found i n e) ∙ p.found j n f);
  }
    where
      by : (n : ℕ) → 1 ≤ n → n ≤ count → (o : Option ℕ) → place_of_number places n ≡ o → Contains listing n
      by n some few (Some k) at = member_at listing k n (p.there n k at)
      by n some few None at =
          let bad = none_there places (n - 1) (omega (arith, some, few, long)) (sym (at_number places n some) ∙ at) in
          let no : true ≡ false = sym bad ∙ all in
          absurd (cc)

  -- a number has none
  pub one_is_missing : list_any is_none places ≡ true → ¬ (IsOrderListing count listing)
  one_is_missing some l =
      let found = any_found is_none places some in
      missing found.0 found.1 found.2 found.3
    where
      missing : (i : ℕ) (o : Option ℕ) → slice_get places i ≡ Some o → is_none o ≡ true → ⊥
      missing i (Some k) at is = absurd (cc)
      missing i None at is =
          let lt = slice_get_within places i None at in
          let here = place_of listing (suc i) ((l.each (suc i)).1 (omega arith, omega (arith, lt, long))) in
          none-some here.0 (sym (get_or_from_slice_get places i None None at) ∙ p.found here.0 (suc i) here.1)

-- ---- pairs

less_at : (o q : Option ℕ) (k l : ℕ) → o ≡ Some k → q ≡ Some l → is_less o q ≡ true → k < l
less_at (Some a) (Some b) k l e f less =
    let lt = ltb-true a b less in
    let same = same_Some a k e in
    let also = same_Some b l f in
    omega (arith, lt, same, also)
less_at (Some a) None k l e f less = absurd (none-some l f)
less_at None q k l e f less = absurd (none-some k e)

less_from : (o q : Option ℕ) → ((k l : ℕ) → o ≡ Some k → q ≡ Some l → k < l) → is_less o q ≡ true
less_from (Some a) (Some b) each = lt-ltb a b (each a b refl refl)
less_from (Some a) None each = refl
less_from None q each = refl

-- the listing keeps the pairs exactly where each pair is kept
pub kept_by_places : (listing : List ℕ) (places : List (Option ℕ)) (count : ℕ) (pairs : List Pair) → IsOrderListing count listing
    → ArePlaces listing places → IsTrue (list_all (is_pair_kept places) pairs) ↔ Keeps pairs count listing
kept_by_places listing places count pairs listed p = (
  λ all. record {
    listed = listed;
    kept = λ i j c k l at_i at_j.
        let at = place_of pairs (i, j) c in
        less_at (place_of_number places i) (place_of_number places j) k l (p.found k i at_i) (p.found l j at_j)
        (all_at (is_pair_kept places) pairs at.0 (i, j) all at.1);
  },
  λ keeps. all_from (is_pair_kept places) pairs (λ n pair at.
      less_from (place_of_number places pair.0) (place_of_number places pair.1) (λ k l e f.
      keeps.kept pair.0 pair.1 (member_at pairs n pair at) k l (p.there pair.0 k e) (p.there pair.1 l f))),
)
