-- What a head that fits binds the transcript to.
use Rattle.std.proofs.Common.{◌≡◌, ℕ, zero, suc, ◌+◌, ◌≤◌, Bool, true, false, List, [], ◌∷◌, map, take, refl, subst, Some, slice_get, nat_le, ◌&&◌}
use Rattle.std.proofs.lemmas.Bool.{leb-true}
use Rattle.lemmas.proofs.ListTests.{all_by_place}
use Rattle.pools.specs.Pools.{HaveWorkers}
use Rattle.task_model.specs.declared.task.Task.{Task}
use Rattle.transcript_model.specs.Rounds.{Share}
use Rattle.transcript_model.specs.declared.head.PoolLine.{PoolLine}
use Rattle.transcript_model.specs.declared.report.Report.{Report}
use Rattle.replay_check.specs.Heads.{AreFitPoolLines, are_fit_limits, are_new, is_fit_pool, served_by, share_in, workers_together}

some_worker : (task : Task) (before : List PoolLine) (pool : PoolLine)
    → is_fit_pool task before pool ≡ true → 1 ≤ pool.workers
some_worker task before pool fits =
    leb-true 1 pool.workers (first_of (nat_le 1 pool.workers) (nat_le pool.workers 16)
    (nat_le (workers_together before + pool.workers) 17) (are_new task (served_by task before) pool.streams) fits)
  where
    first_of : (x y z w : Bool) → (x && y && z && w) ≡ true → x ≡ true
    first_of true y z w e = refl
    first_of false y z w e = absurd (cc)

shared_at : (task : Task) (pools : List PoolLine) (k : ℕ) (p : Share)
    → slice_get (map (share_in task) pools) k ≡ Some p
    → (pool : PoolLine) × (slice_get pools k ≡ Some pool) × (share_in task pool ≡ p)
shared_at task [] k p at = absurd (cc)
shared_at task (pool ∷ pools) zero p at =
    (pool, refl, let same : share_in task pool ≡ p = cc in same)
shared_at task (pool ∷ pools) (suc k) p at = shared_at task pools k p at

pub pools_work : (task : Task) (pools : List PoolLine) → AreFitPoolLines task pools
    → HaveWorkers (map (share_in task) pools)
pools_work task pools fit =
    all_by_place (λ (p : Share). 1 ≤ p.workers) (map (share_in task) pools) each
  where
    worker : (k : ℕ) (p : Share) (pool : PoolLine) → slice_get pools k ≡ Some pool
        → share_in task pool ≡ p → 1 ≤ p.workers
    worker k p pool at is = subst (λ (x : Share). 1 ≤ x.workers) is (some_worker task (take k pools) pool (fit k pool at))

    each : (k : ℕ) (p : Share) → slice_get (map (share_in task) pools) k ≡ Some p → 1 ≤ p.workers
    each k p at = let there = shared_at task pools k p at in worker k p there.0 there.1 there.2

pub limits_fit : (r : Report) → are_fit_limits r ≡ true
    → (r.calls ≤ 100000) × (1 ≤ r.states) × (r.states ≤ 200000)
limits_fit r e =
    let p = six_parts (nat_le 1 r.calls) (nat_le r.calls 100000) (nat_le 1 r.states) (nat_le r.states 200000)
    (nat_le 1 r.depth) (nat_le r.depth 8) e in
    (leb-true r.calls 100000 p.0, leb-true 1 r.states p.1, leb-true r.states 200000 p.2)
  where
    six_parts : (u v w x y z : Bool) → (u && v && w && x && y && z) ≡ true
        → (v ≡ true) × (w ≡ true) × (x ≡ true)
    six_parts true true true true y z e = (refl, refl, refl)
    six_parts true true true false y z e = absurd (cc)
    six_parts true true false x y z e = absurd (cc)
    six_parts true false w x y z e = absurd (cc)
    six_parts false v w x y z e = absurd (cc)
