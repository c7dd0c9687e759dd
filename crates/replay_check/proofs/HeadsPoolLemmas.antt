-- The pools of a head, one after another.
use Rattle.std.proofs.Common.{◌≡◌, ℕ, zero, suc, ◌+◌, ◌≤◌, ◌⊎◌, inl, inr, List, [], ◌∷◌, ◌++◌, take, refl, sym, ap, ◌∙◌, Some, slice_get, true, nat_le, arith}
use Rattle.std.proofs.lemmas.List.{map-append, append-nil}
use Rattle.std.proofs.lemmas.List.Concat.{flat_map-append}
use Rattle.std.proofs.lemmas.List.Sums.{sum_by-append}
use Rattle.lemmas.proofs.Bools.{and_four}
use Rattle.pools.specs.Pools.{Workers, share_of_workers, shares_of}
use Rattle.task_model.specs.declared.task.Task.{Task}
use Rattle.transcript_model.specs.declared.head.PoolLine.{PoolLine}
use Rattle.replay_check.specs.Headed.{IsAfter}
use Rattle.replay_check.specs.Heads.{AreFitPoolLines, are_new, is_fit_pool, served_by, share_in, pool_line_streams, workers_together}
use Rattle.replay_check.specs.declared.head.Before.{Before}
use Rattle.lemmas.proofs.Numbers.{le_test}

pub last_or_before : {A : Type 0} (xs : List A) (x : A) (k : ℕ) (y : A)
    → slice_get (xs ++ x ∷ []) k ≡ Some y
    → ((slice_get xs k ≡ Some y) × (take k (xs ++ x ∷ []) ≡ take k xs)) ⊎ ((x ≡ y) × (take k (xs ++ x ∷ []) ≡ xs))
last_or_before [] x zero y at = inr (cc, refl)
last_or_before [] x (suc k) y at = absurd (cc)
last_or_before (z ∷ zs) x zero y at = inl (at, refl)
last_or_before (z ∷ zs) x (suc k) y at = up (last_or_before zs x k y at)
  where
    up : ((slice_get zs k ≡ Some y) × (take k (zs ++ x ∷ []) ≡ take k zs)) ⊎ ((x ≡ y) × (take k (zs ++ x ∷ []) ≡ zs))
        → ((slice_get zs k ≡ Some y) × (z ∷ take k (zs ++ x ∷ []) ≡ z ∷ take k zs)) ⊎ ((x ≡ y) × (z ∷ take k (zs ++ x ∷ []) ≡ z ∷ zs))
    up (inl h) = inl (h.0, ap (λ es. z ∷ es) h.1)
    up (inr h) = inr (h.0, ap (λ es. z ∷ es) h.1)

module _ (task : Task) (before : List PoolLine) (pool : PoolLine) (b : Before) (h : IsAfter task before b) where
  pub pool_fits : 1 ≤ pool.workers → pool.workers ≤ 16 → b.workers + pool.workers ≤ 17
      → are_new task b.served.items pool.streams ≡ true
      → is_fit_pool task before pool ≡ true
  pool_fits some few together new =
      let all : workers_together before + pool.workers ≤ 17 = let is = h.workers in omega (arith, is, together) in
      and_four (nat_le 1 pool.workers) (nat_le pool.workers 16)
      (nat_le (workers_together before + pool.workers) 17) (are_new task (served_by task before) pool.streams)
      (le_test 1 pool.workers some) (le_test pool.workers 16 few)
      (le_test (workers_together before + pool.workers) 17 all) (ap (λ (s : List ℕ). are_new task s pool.streams) (sym h.served) ∙ new)

  fit_more : is_fit_pool task before pool ≡ true → AreFitPoolLines task (before ++ pool ∷ [])
  fit_more fits place other at = by (last_or_before before pool place other at)
    where
      by : ((slice_get before place ≡ Some other) × (take place (before ++ pool ∷ []) ≡ take place before))
          ⊎ ((pool ≡ other) × (take place (before ++ pool ∷ []) ≡ before))
          → is_fit_pool task (take place (before ++ pool ∷ [])) other ≡ true
      by (inl (there, front)) =
          ap (λ (ps : List PoolLine). is_fit_pool task ps other) front ∙ h.fit place other there
      by (inr (is, front)) = (λ i. is_fit_pool task (front i) (sym is i)) ∙ fits

  -- one pool more
  pub pool_passed : (a : Before) (own : Workers) → is_fit_pool task before pool ≡ true
      → b.workers + pool.workers ≤ 17
      → a.pools.items ≡ b.pools.items ++ own ∷ [] → share_of_workers own ≡ share_in task pool
      → a.served.items ≡ b.served.items ++ pool_line_streams task pool → a.workers ≡ b.workers + pool.workers
      → IsAfter task (before ++ pool ∷ []) a
  pool_passed a own fits few pools is served workers =
      record {
        pools =
            ap shares_of pools ∙ map-append share_of_workers b.pools.items (own ∷ []) ∙ (λ i. h.pools i ++ is i ∷ [])
            ∙ sym (map-append (share_in task) before (pool ∷ []));
        served =
            served ∙ (λ i. h.served i ++ sym (append-nil (pool_line_streams task pool)) i)
            ∙ sym (flat_map-append (pool_line_streams task) before (pool ∷ []));
        workers = let sums = sum_by-append (λ (p : PoolLine). p.workers) before (pool ∷ []) in
            let was = h.workers in omega (arith, sums, was, workers);
        few = omega (arith, few, workers);
        fit = fit_more fits;
      }

-- before the first pool
pub none_passed : (task : Task) (b : Before) → b.pools.items ≡ [] → b.served.items ≡ []
    → b.workers ≡ 0 → IsAfter task [] b
none_passed task b pools served workers =
    record {
      pools = ap shares_of pools;
      served = served;
      workers = workers;
      few = omega (arith, workers);
      fit = λ place pool at. absurd (cc);
    }
