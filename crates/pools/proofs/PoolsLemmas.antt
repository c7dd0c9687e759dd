-- Pools by streams and by instances, and one after another.
use Rattle.std.proofs.Common.{◌≡◌, ℕ, zero, suc, ◌+◌, ◌<◌, ◌≤◌, true, false, cond, ◌&&◌, List, [], ◌∷◌, length, drop, get_or, refl, sym, ap, subst, ◌∙◌, Some, slice_get, nat_le, count_by}
use Rattle.std.proofs.lemmas.Bool.{leb-true, le-leb, lt-leb}
use Rattle.std.proofs.lemmas.List.{drop_more}
use Rattle.std.proofs.lemmas.List.Elements.{All-nil, All-cons}
use Rattle.std.proofs.lemmas.List.Sums.{sum_by-append}
use Rattle.std.specs.Cmp.{first_so, second_so}
use Rattle.instance_queue.specs.Level.{due_instances}
use Rattle.instance_queue.specs.declared.due.Due.{Due}
use Rattle.task_model.specs.declared.stream.Instance.{Instance}
use Rattle.task_model.specs.declared.task.Task.{Task}
use Rattle.transcript_model.specs.Rounds.{Share, fits, serves}
use Rattle.pools.specs.Pools.{AreFitPools, HaveWorkers, Workers, has_stream, server, share_of_workers, shares_of, asked_streams}

-- ---- by streams and by instances

-- what a pool serves of asks is what it serves of their streams
pub served_streams : (p : Workers) (dues : List Due)
    → count_by (serves (share_of_workers p)) (due_instances dues) ≡ count_by (has_stream p) (asked_streams dues)
served_streams p [] = refl
served_streams p (d ∷ ds) =
    let one : ℕ = cond (has_stream p d.instance.stream) 1 0 in
    sum_by-append (λ (i : Instance). cond (serves (share_of_workers p) i) 1 0) (d.instance ∷ []) (due_instances ds)
    ∙ ap (λ n. (0 + one) + n) (served_streams p ds)
    ∙ sym (sum_by-append (λ (s : ℕ). cond (has_stream p s) 1 0) (d.instance.stream ∷ []) (asked_streams ds))

-- asks that fit the pools are no more for each pool than it has workers
pub workers_fit : (pools : List Workers) (dues : List Due)
    → fits (shares_of pools) (due_instances dues) ≡ true → (k : ℕ) (p : Workers)
    → slice_get pools k ≡ Some p → count_by (has_stream p) (asked_streams dues) ≤ p.workers
workers_fit [] dues e k p at = absurd (cc)
workers_fit (q ∷ qs) dues e zero p at =
    let same : q ≡ p = cc in
    let count = count_by (serves (share_of_workers q)) (due_instances dues) in
    let few = leb-true count q.workers (first_so (nat_le count q.workers) (fits (shares_of qs) (due_instances dues)) e) in
    subst (λ (w : Workers). count_by (has_stream w) (asked_streams dues) ≤ w.workers) same
    (subst (λ n. n ≤ q.workers) (served_streams q dues) few)
workers_fit (q ∷ qs) dues e (suc k) p at =
    let count = count_by (serves (share_of_workers q)) (due_instances dues) in
    workers_fit qs dues (second_so (nat_le count q.workers) (fits (shares_of qs) (due_instances dues)) e) k p at

-- ---- fit pools

-- each has a worker
pub have_workers : (task : Task) (pools : List Workers) → AreFitPools task pools
    → HaveWorkers (shares_of pools)
have_workers task pools fit = by pools fit.some
  where
    by : (all : List Workers) → ((k : ℕ) (p : Workers) → slice_get all k ≡ Some p → 1 ≤ p.workers)
        → HaveWorkers (shares_of all)
    by [] some = All-nil (λ (p : Share). 1 ≤ p.workers)
    by (p ∷ ps) some =
        All-cons (λ (q : Share). 1 ≤ q.workers) (share_of_workers p) (shares_of ps)
        (some 0 p refl) (by ps (λ k q at. some (suc k) q at))

-- the pool that answers for a stream is one of the pools
pub server_is : (pools : List Workers) (stream : ℕ) (p : Workers) → server pools stream ≡ Some p
    → (k : ℕ) × (slice_get pools k ≡ Some p) × (has_stream p stream ≡ true)
server_is [] stream p e = absurd (cc)
server_is (q ∷ qs) stream p e =
    elim (has_stream q stream) as (λ b.
    has_stream q stream ≡ b → cond b (Some q) (server qs stream) ≡ Some p
    → (k : ℕ) × (slice_get (q ∷ qs) k ≡ Some p) × (has_stream p stream ≡ true)) [
      | true ↦ λ passes f. let same : q ≡ p = cc in (0, ap Some same, ap (λ w. has_stream w stream) (sym same) ∙ passes)
      | false ↦ λ _ f. let r = server_is qs stream p f in (suc r.0, r.1, r.2)
    ] refl e

-- ---- one after another

one_left : (pools : List Workers) (k : ℕ) (p : Workers) (list : List Instance) → k < length pools
    → p ≡ get_or pools k p
    → fits (shares_of (drop k pools)) list
    ≡ (nat_le (count_by (serves (share_of_workers p)) list) p.workers && fits (shares_of (drop (k + 1) pools)) list)
one_left pools k p list lt is =
    ap (λ ps. fits (shares_of ps) list) (drop_more pools k p lt ∙ ap (λ q. q ∷ drop (k + 1) pools) (sym is))

pub too_many : (pools : List Workers) (k : ℕ) (p : Workers) (list : List Instance) → k < length pools
    → p ≡ get_or pools k p
    → p.workers < count_by (serves (share_of_workers p)) list → fits (shares_of (drop k pools)) list ≡ false
too_many pools k p list lt is more =
    one_left pools k p list lt is
    ∙ (λ i. lt-leb (count_by (serves (share_of_workers p)) list) p.workers more i && fits (shares_of (drop (k + 1) pools)) list)

pub few_enough : (pools : List Workers) (k : ℕ) (p : Workers) (list : List Instance)
    → k < length pools → p ≡ get_or pools k p
    → count_by (serves (share_of_workers p)) list ≤ p.workers
    → fits (shares_of (drop k pools)) list ≡ fits (shares_of (drop (k + 1) pools)) list
few_enough pools k p list lt is few =
    one_left pools k p list lt is
    ∙ (λ i. le-leb (count_by (serves (share_of_workers p)) list) p.workers few i && fits (shares_of (drop (k + 1) pools)) list)
