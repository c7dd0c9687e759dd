-- Pools whose children are their own have no more workers together than there are children.
use Rattle.std.proofs.Common.{◌≡◌, ℕ, zero, suc, ◌+◌, ◌-◌, ◌<◌, ◌≤◌, ◌⊎◌, inl, inr, ◌&&◌, Bool, true, false, cond, min, nat_le, nat_lt, List, [], ◌∷◌, map, sum_by, count_by, refl, ap, ◌∙◌, Some, slice_get, arith, le-leb, lt-ltb, leb-true, ltb-true}
use Rattle.std.proofs.lemmas.Bool.{cases_lt, and_from}
use Rattle.std.proofs.lemmas.List.Sums.{sum_by-append}
use Rattle.std.specs.Cmp.{first_so, second_so}
use Rattle.lemmas.proofs.Numbers.{zero_suc, suc_same}
use Rattle.lemmas.proofs.Counts.{count_joined, count_one}
use Rattle.pools.specs.Pools.{AreFitPools, HasChild, Workers, workers_of}
use Rattle.task_model.specs.declared.task.Task.{Task}
use Rattle.transcript_model.specs.declared.head.Pool.{Pool}

-- how many of the first children are this pool's
abbrev cover : ℕ → Workers → ℕ
cover m p = min m (p.first + p.workers) - min m p.first

-- the pool has this child
abbrev has : ℕ → Workers → Bool
has m p = nat_le p.first m && nat_lt m (p.first + p.workers)

cover_more : (m : ℕ) (p : Workers) → cover (suc m) p ≤ cover m p + cond (has m p) 1 0
cover_more m p = by (cases_lt m p.first) (cases_lt m (p.first + p.workers))
  where
    by : (m < p.first) ⊎ (p.first ≤ m) → (m < p.first + p.workers) ⊎ (p.first + p.workers ≤ m)
        → cover (suc m) p ≤ cover m p + cond (has m p) 1 0
    by (inl below) q = omega (arith, below)
    by (inr from) (inr past) = omega (arith, from, past)
    by (inr from) (inl within) =
        let here : cond {A = ℕ} (has m p) 1 0 ≡ 1 =
        ap (λ b. cond {A = ℕ} b 1 0) (and_from (nat_le p.first m) (nat_lt m (p.first + p.workers))
        (le-leb p.first m from) (lt-ltb m (p.first + p.workers) within)) in
        omega (arith, from, within, here)

module _ {A : Type 0} where
  sum_next : (f : A → ℕ) (x : A) (xs : List A) → sum_by f (x ∷ xs) ≡ f x + sum_by f xs
  sum_next f x xs = omega (arith, sum_by-append f (x ∷ []) xs)

  count_next : (f : A → Bool) (x : A) (xs : List A)
      → count_by f (x ∷ xs) ≡ cond (f x) 1 0 + count_by f xs
  count_next f x xs = count_joined f (x ∷ []) xs ∙ ap (λ n. n + count_by f xs) (count_one f x)

  count_none : (f : A → Bool) (xs : List A)
      → ((k : ℕ) (x : A) → slice_get xs k ≡ Some x → f x ≡ true → ⊥) → count_by f xs ≡ 0
  count_none f [] none = refl
  count_none f (x ∷ xs) none =
      let rest = count_none f xs (λ k y at. none (suc k) y at) in
      let here = by (f x) refl in
      omega (arith, count_next f x xs, rest, here)
    where
      by : (b : Bool) → f x ≡ b → cond {A = ℕ} (f x) 1 0 ≡ 0
      by true e = absurd (none 0 x refl e)
      by false e = ap (λ b. cond {A = ℕ} b 1 0) e

  at_most_one : (f : A → Bool) (xs : List A)
      → ((j k : ℕ) (x y : A) → slice_get xs j ≡ Some x → slice_get xs k ≡ Some y → f x ≡ true → f y ≡ true → j ≡ k)
      → count_by f xs ≤ 1
  at_most_one f [] one = omega arith
  at_most_one f (x ∷ xs) one =
      by (f x) refl
      (at_most_one f xs (λ j k y z at_j at_k. let same = one (suc j) (suc k) y z at_j at_k in
      λ fy fz. suc_same j k (same fy fz)))
    where
      by : (b : Bool) → f x ≡ b → count_by f xs ≤ 1 → count_by f (x ∷ xs) ≤ 1
      by true e rest =
          let none = count_none f xs (λ k y at fy. zero_suc k (one 0 (suc k) x y refl at e fy)) in
          let here : cond {A = ℕ} (f x) 1 0 ≡ 1 = ap (λ b. cond {A = ℕ} b 1 0) e in
          omega (arith, count_next f x xs, none, here)
      by false e rest =
          let here : cond {A = ℕ} (f x) 1 0 ≡ 0 = ap (λ b. cond {A = ℕ} b 1 0) e in
          omega (arith, count_next f x xs, rest, here)

sum_more : (m : ℕ) (all : List Workers)
    → sum_by (cover (suc m)) all ≤ sum_by (cover m) all + count_by (has m) all
sum_more m [] = omega arith
sum_more m (p ∷ all) =
    let next = sum_next (cover (suc m)) p all in
    omega (arith, next, sum_next (cover m) p all, count_next (has m) p all, cover_more m p, sum_more m all)

none_covered : (all : List Workers) → sum_by (cover 0) all ≡ 0
none_covered [] = refl
none_covered (p ∷ all) = let here : cover 0 p ≡ 0 = omega arith in
    omega (arith, sum_next (cover 0) p all, here, none_covered all)

module _ (task : Task) (all : List Workers) (fit : AreFitPools task all) where
  covered : (m : ℕ) → sum_by (cover m) all ≤ m
  covered zero = omega (arith, none_covered all)
  covered (suc m) = omega (arith, covered m, sum_more m all, at_most_one (has m) all own)
    where
      child : (p : Workers) → has m p ≡ true → HasChild p m
      child p e = record {
        from = leb-true p.first m (first_so (nat_le p.first m) (nat_lt m (p.first + p.workers)) e);
        to = ltb-true m (p.first + p.workers) (second_so (nat_le p.first m) (nat_lt m (p.first + p.workers)) e);
      }

      own : (j k : ℕ) (p q : Workers) → slice_get all j ≡ Some p → slice_get all k ≡ Some q
          → has m p ≡ true → has m q ≡ true → j ≡ k
      own j k p q at_j at_k in_p in_q = fit.apart j k m p q at_j at_k (child p in_p) (child q in_q)

  all_covered : (some : List Workers)
      → ((k : ℕ) (p : Workers) → slice_get some k ≡ Some p → p.first + p.workers ≤ 17)
      → sum_by (λ (p : Workers). p.workers) some ≤ sum_by (cover 17) some
  all_covered [] few = omega arith
  all_covered (p ∷ some) few =
      let rest = all_covered some (λ k q at. few (suc k) q at) in
      let here : p.workers ≤ cover 17 p = omega (arith, few 0 p refl) in
      omega (arith, rest, here, sum_next (λ (q : Workers). q.workers) p some, sum_next (cover 17) p some)

  few_workers : sum_by (λ (p : Workers). p.workers) all ≤ 17
  few_workers = omega (arith, all_covered all fit.few, covered 17)

kept_workers : (pools : List Pool)
    → sum_by (λ (p : Workers). p.workers) (map workers_of pools) ≡ sum_by (λ (p : Pool). p.workers) pools
kept_workers [] = refl
kept_workers (p ∷ pools) =
    omega (
      arith,
      sum_next (λ (q : Workers). q.workers) (workers_of p) (map workers_of pools),
      sum_next (λ (q : Pool). q.workers) p pools,
      kept_workers pools,
    )

-- at most 17 together
pub together : (task : Task) (pools : List Pool) → AreFitPools task (map workers_of pools)
    → sum_by (λ (p : Pool). p.workers) pools ≤ 17
together task pools fit =
    omega (arith, few_workers task (map workers_of pools) fit, kept_workers pools)
