-- Stages that are put one behind another are one more than the greatest of those before them in a pair.
use Rattle.std.proofs.Common.{◌≡◌, ℕ, zero, suc, ◌+◌, ◌<◌, ◌≤◌, ◌==◌, Bool, true, false, cond, max, List, [], ◌∷◌, ◌++◌, map, filter, length, refl, sym, ap, ◌∙◌, subst, arith, Contains, inl, inr, Some, slice_get, slice_index_or, eqb-true}
use Rattle.std.proofs.lemmas.Bool.{cases_lt}
use Rattle.std.proofs.lemmas.List.{length-append}
use Rattle.std.proofs.lemmas.Option.{same_Some, slice_get_within}
use Rattle.lemmas.proofs.Ascending.{contains_here, contains_later, from_flat_map, in_flat_map}
use Rattle.lemmas.proofs.Distinct.{from_mapped, in_mapped}
use Rattle.lemmas.proofs.Members.{get_append, get_pushed, push_cases}
use Rattle.lemmas.proofs.Options.{none_at}
use Rattle.lemmas.specs.Lists.{numbers_from}
use Rattle.plan_deorder.proofs.OrderLemmas.{highest, lowest}
use Rattle.plan_deorder.proofs.PairLemmas.{each_pair, from_filter, from_row, in_filter, in_row, numbers_next, pairs_in, pairs_rise}
use Rattle.plan_deorder.proofs.StageLemmas.{at_most_greatest, kept_by}
use Rattle.task_model.specs.declared.task.GroundAction.{GroundAction}
use Rattle.task_model.specs.declared.task.Task.{Task}
use Rattle.plan_deorder.specs.Clashes.{AreTouched, IsTouchedBy, clash_at, pair_of, pairs_from, stage_of, stages_of, stages_under}
use Rattle.plan_deorder.specs.Orders.{AreStages, IsOrder, Pair, greatest, stage_at, stages_before}
use Rattle.plan_deorder.specs.declared.touched.Touched.{Touched}

-- ---- the greatest of some numbers

greatest_within : (ns : List ℕ) (m : ℕ) → ((n : ℕ) → Contains ns n → n ≤ m) → greatest ns ≤ m
greatest_within [] m each = omega arith
greatest_within (n ∷ ns) m each =
    let here = each n (contains_here n ns) in
    let rest = greatest_within ns m (λ k c. each k (contains_later n ns k c)) in
    omega (arith, here, rest)

same_greatest : (ms ns : List ℕ) → ((n : ℕ) → Contains ms n → Contains ns n)
    → ((n : ℕ) → Contains ns n → Contains ms n) → greatest ms ≡ greatest ns
same_greatest ms ns to from =
    let low = greatest_within ms (greatest ns) (λ n c. at_most_greatest ns n (to n c)) in
    let high = greatest_within ns (greatest ms) (λ n c. at_most_greatest ms n (from n c)) in
    omega (arith, low, high)

greatest_append : (ms : List ℕ) (n : ℕ) → greatest (ms ++ n ∷ []) ≡ max n (greatest ms)
greatest_append [] n = omega arith
greatest_append (m ∷ ms) n = let rest = greatest_append ms n in omega (arith, rest)

-- one number more, which passes the test or doesn't
greatest_kept : (f : ℕ → ℕ) (p : ℕ → Bool) (ms : List ℕ) (n : ℕ)
    → greatest (map f (filter p (ms ++ n ∷ []))) ≡ cond (p n) (max (f n) (greatest (map f (filter p ms)))) (greatest (map f (filter p ms)))
greatest_kept f p [] n = by (p n)
  where
    by : (b : Bool) → greatest (map f (cond b (n ∷ []) [])) ≡ cond b (max (f n) 0) 0
    by true = refl
    by false = refl
greatest_kept f p (m ∷ ms) n = by (p m) (p n) (greatest_kept f p ms n)
  where
    by : (b c : Bool)
        → greatest (map f (filter p (ms ++ n ∷ []))) ≡ cond c (max (f n) (greatest (map f (filter p ms)))) (greatest (map f (filter p ms)))
        → greatest (map f (cond b (m ∷ filter p (ms ++ n ∷ [])) (filter p (ms ++ n ∷ []))))
        ≡ cond c (max (f n) (greatest (map f (cond b (m ∷ filter p ms) (filter p ms))))) (greatest (map f (cond b (m ∷ filter p ms) (filter p ms))))
    by true true rest = omega (arith, rest)
    by true false rest = omega (arith, rest)
    by false c rest = rest

module _ (touched : List Touched) where
  -- the greatest stage of the first so many steps that conflict with the one at the place
  abbrev pub greatest_of : List ℕ → ℕ → ℕ → ℕ
  greatest_of stages j n =
      greatest (map (λ i. slice_index_or stages i 0) (filter (λ i. clash_at touched i j) (numbers_from 0 n)))

  pub greatest_next : (stages : List ℕ) (j n : ℕ)
      → greatest_of stages j (n + 1)
      ≡ cond (clash_at touched n j) (max (slice_index_or stages n 0) (greatest_of stages j n)) (greatest_of stages j n)
  greatest_next stages j n =
      ap (λ ns. greatest (map (λ i. slice_index_or stages i 0) (filter (λ i. clash_at touched i j) ns))) (numbers_next n)
      ∙ greatest_kept (λ i. slice_index_or stages i 0) (λ i. clash_at touched i j) (numbers_from 0 n) n

  -- ---- stage by stage

  pub long : (n : ℕ) → length (stages_of touched n) ≡ n
  long zero = refl
  long (suc n) =
      let e = length-append (stages_of touched n) (stage_of touched (stages_of touched n) n ∷ []) in omega (arith, e, long n)

  index_of : (stages : List ℕ) (k n : ℕ) → slice_get stages k ≡ Some n → slice_index_or stages k 0 ≡ n
  index_of [] k n e = absurd (cc)
  index_of (m ∷ ms) zero n e = same_Some m n e
  index_of (m ∷ ms) (suc k) n e = index_of ms k n e

  found : (n k : ℕ) → k < n → slice_get (stages_of touched n) k ≡ Some (stage_of touched (stages_of touched k) k)
  found zero k h = absurd (omega (arith, h))
  found (suc n) k h =
      let last = stage_of touched (stages_of touched n) n in
      elim (cases_lt k n) [
        | inl less ↦ get_append (stages_of touched n) (last ∷ []) k _ (found n k less)
        | inr more ↦
            let same : k ≡ n = omega (arith, h, more) in
            subst (λ m. slice_get (stages_of touched n ++ last ∷ []) m ≡ Some (stage_of touched (stages_of touched m) m)) (sym same)
            (get_pushed (stages_of touched n) last n (sym (long n)))
      ]

  -- a stage stays when others are put behind it
  stays : (m n i : ℕ) → i < m → i < n → slice_index_or (stages_of touched m) i 0 ≡ slice_index_or (stages_of touched n) i 0
  stays m n i h k =
      index_of (stages_of touched m) i (stage_of touched (stages_of touched i) i) (found m i h)
      ∙ sym (index_of (stages_of touched n) i (stage_of touched (stages_of touched i) i) (found n i k))

  pub small : (n i : ℕ) → i < n → slice_index_or (stages_of touched n) i 0 ≤ i + 1
  small zero i h = absurd (omega (arith, h))
  small (suc n) i h =
      elim (cases_lt i n) [
        | inl less ↦ let e = stays (suc n) n i h less in omega (arith, e, small n i less)
        | inr more ↦
            let same : i ≡ n = omega (arith, h, more) in
            let is = index_of (stages_of touched (suc n)) i (stage_of touched (stages_of touched i) i) (found (suc n) i h) in
            let most : greatest (stages_under touched (stages_of touched i) i) ≤ i =
            subst (λ k. greatest (stages_under touched (stages_of touched k) k) ≤ k) (sym same) (below n (λ j less. small n j less)) in
            omega (arith, is, most)
      ]
    where
      below : (n : ℕ) → ((j : ℕ) → j < n → slice_index_or (stages_of touched n) j 0 ≤ j + 1)
          → greatest (stages_under touched (stages_of touched n) n) ≤ n
      below n each =
          greatest_within (stages_under touched (stages_of touched n) n) n (λ m c.
          let from = from_mapped (λ i. slice_index_or (stages_of touched n) i 0) (filter (λ i. clash_at touched i n) (numbers_from 0 n)) m c in
          let bounds = lowest 0 n from.0 (from_filter (λ i. clash_at touched i n) (numbers_from 0 n) from.0 from.1).0 in
          let one = each from.0 (omega (arith, bounds.1)) in
          omega (arith, one, from.2, bounds.1))

  pub few_before : (stages : List ℕ) (j n : ℕ) → ((i : ℕ) → i < n → slice_index_or stages i 0 ≤ i + 1) → greatest_of stages j n ≤ n
  few_before stages j n each =
      greatest_within (map (λ i. slice_index_or stages i 0) (filter (λ i. clash_at touched i j) (numbers_from 0 n))) n (λ m c.
      let from = from_mapped (λ i. slice_index_or stages i 0) (filter (λ i. clash_at touched i j) (numbers_from 0 n)) m c in
      let bounds = lowest 0 n from.0 (from_filter (λ i. clash_at touched i j) (numbers_from 0 n) from.0 from.1).0 in
      let one = each from.0 (omega (arith, bounds.1)) in
      omega (arith, one, from.2, bounds.1))

  -- ---- they are stages of the pairs

  under_is_before : (k : ℕ) → k < length touched
      → greatest (stages_under touched (stages_of touched k) k)
      ≡ greatest (stages_before (pairs_in touched) (stages_of touched (length touched)) (k + 1))
  under_is_before k h = same_greatest _ _ to from
    where
      size : ℕ
      size = length touched

      stages : List ℕ
      stages = stages_of touched (length touched)

      to : (m : ℕ) → Contains (stages_under touched (stages_of touched k) k) m
          → Contains (stages_before (pairs_in touched) stages (k + 1)) m
      to m c =
          let mapped = from_mapped (λ i. slice_index_or (stages_of touched k) i 0) (filter (λ i. clash_at touched i k) (numbers_from 0 k)) m c in
          let i = mapped.0 in
          let kept = from_filter (λ i. clash_at touched i k) (numbers_from 0 k) i mapped.1 in
          let bounds = lowest 0 k i kept.0 in
          let less : i < k = omega (arith, bounds.1) in
          let there : Contains (pairs_in touched) (pair_of i k) =
          in_flat_map (pairs_from touched) (numbers_from 0 size) i (pair_of i k)
          (highest 0 size i (omega arith) (omega (arith, less, h))) (in_row touched i k less h kept.1) in
          let one = in_mapped (λ (p : Pair). stage_at stages p.0) (filter (λ (p : Pair). p.1 == k + 1) (pairs_in touched)) (pair_of i k)
          (kept_by (pairs_in touched) (i + 1) (k + 1) there) in
          let next : i + 1 ≡ suc i = omega arith in
          let is : stage_at stages (i + 1) ≡ m =
          ap (stage_at stages) next ∙ stays size k i (omega (arith, less, h)) less ∙ sym mapped.2 in
          subst (λ n. Contains (stages_before (pairs_in touched) stages (k + 1)) n) is one

      from : (m : ℕ) → Contains (stages_before (pairs_in touched) stages (k + 1)) m
          → Contains (stages_under touched (stages_of touched k) k) m
      from m c =
          let mapped = from_mapped (λ (p : Pair). stage_at stages p.0) (filter (λ (p : Pair). p.1 == k + 1) (pairs_in touched)) m c in
          let kept = from_filter (λ (p : Pair). p.1 == k + 1) (pairs_in touched) mapped.0 mapped.1 in
          let row = from_flat_map (pairs_from touched) (numbers_from 0 size) mapped.0 kept.0 in
          let in_it = from_row touched row.0 mapped.0 row.2 in
          let i = row.0 in
          let second : in_it.j + 1 ≡ k + 1 = sym (ap (λ (p : Pair). p.1) in_it.is) ∙ eqb-true mapped.0.1 (k + 1) kept.1 in
          let same : in_it.j ≡ k = omega (arith, second) in
          let less : i < k = omega (arith, in_it.later, same) in
          let one = in_mapped (λ i. slice_index_or (stages_of touched k) i 0) (filter (λ i. clash_at touched i k) (numbers_from 0 k)) i
          (in_filter (λ i. clash_at touched i k) (numbers_from 0 k) i (highest 0 k i (omega arith) (omega (arith, less)))
          (ap (clash_at touched i) (sym same) ∙ in_it.clashing)) in
          let next : i + 1 ≡ suc i = omega arith in
          let is : slice_index_or (stages_of touched k) i 0 ≡ m =
          stays k size i less (omega (arith, less, h)) ∙ sym (ap (stage_at stages) next) ∙ sym (ap (λ (p : Pair). stage_at stages p.0) in_it.is)
          ∙ sym mapped.2 in
          subst (λ n. Contains (stages_under touched (stages_of touched k) k) n) is one

  pub are_stages : AreStages (pairs_in touched) (stages_of touched (length touched))
  are_stages k stage e =
      let within = slice_get_within (stages_of touched (length touched)) k stage e in
      let inside : k < length touched = omega (arith, within, long (length touched)) in
      let is = same_Some _ _ (sym e ∙ found (length touched) k inside) in
      is ∙ ap (λ n. n + 1) (under_is_before k inside)

-- ---- the whole order

touched_none : (task : Task) → AreTouched task [] []
touched_none task = record { long = refl; each = λ k step t at_k at_t. absurd (none_at k step at_k) }

pub touched_begin : (task : Task) (ts : List Touched) → ts ≡ [] → AreTouched task [] ts
touched_begin task ts e = subst (AreTouched task []) (sym e) (touched_none task)

pub touched_next : (task : Task) (steps : List GroundAction) (ts : List Touched) (step : GroundAction) (t : Touched)
    → AreTouched task steps ts → IsTouchedBy task step t → AreTouched task (steps ++ step ∷ []) (ts ++ t ∷ [])
touched_next task steps ts step t are is = record {
  long = omega (arith, length-append ts (t ∷ []), length-append steps (step ∷ []), are.long);
  each = λ k s u at_s at_u.
      elim (push_cases steps step k s at_s) [
        | inl before ↦ elim (push_cases ts t k u at_u) [
          | inl there ↦ are.each k s u before there
          | inr last ↦
              let within = slice_get_within steps k s before in
              absurd (omega (arith, within, last.0, are.long))
        ]
        | inr here ↦ elim (push_cases ts t k u at_u) [
          | inl there ↦
              let within = slice_get_within ts k u there in
              absurd (omega (arith, within, here.0, are.long))
          | inr last ↦ subst (λ x. IsTouchedBy task x u) (sym here.1) (subst (IsTouchedBy task step) (sym last.1) is)
        ]
      ];
}

pub is_order : (task : Task) (steps : List GroundAction) (touched : List Touched) → AreTouched task steps touched
    → IsOrder task steps (pairs_in touched) (stages_of touched (length touched))
is_order task steps touched are = record {
  each = each_pair task steps touched are;
  ordered = pairs_rise touched;
  long = long touched (length touched) ∙ are.long;
  staged = are_stages touched;
}
