-- The children of a head's pools.
use Rattle.std.proofs.Common.{◌≡◌, ℕ, ◌+◌, ◌<◌, ◌≤◌, List, Option, Some, None, slice_get, option_map, refl, sym, subst, ◌∙◌, arith}
use Rattle.std.specs.List.{find}
use Rattle.std.proofs.lemmas.Option.{slice_get-map}
use Rattle.io_world.specs.declared.host.TheConstants.{CHILDREN}
use Rattle.pools.specs.Pools.{AreFitPools, Workers, workers_of}
use Rattle.round_run.proofs.StartsLemmas.{no_worker}
use Rattle.round_run.specs.Calls.{has_child}
use Rattle.round_run.specs.Dialogue.{IsOneOf, Request, requests_of, workers_in}
use Rattle.task_model.specs.declared.task.Task.{Task}
use Rattle.transcript_model.specs.declared.entry.Entry.{Entry}
use Rattle.transcript_model.specs.declared.head.Head.{Head}
use Rattle.transcript_model.specs.declared.head.Pool.{Pool}

-- a child of a pool
pub record IsWorkerIn (head : Head) (child : ℕ) : Type 0 where
  pub pool : Pool
  pub found : find (has_child child) head.pools ≡ Some pool
  pub low : child < CHILDREN
  pub one : IsOneOf (workers_in head) child

-- each request goes to one
abbrev pub GoToWorkers : Task → Head → List Entry → Type 0
GoToWorkers task head entries =
    (k : ℕ) (r : Request) → slice_get (requests_of task (workers_in head) entries) k ≡ Some r → IsWorkerIn head r.child

mapped : {A B : Type 0} (f : A → B) (o : Option A) (y : B) → option_map f o ≡ Some y → (x : A) × (o ≡ Some x) × (f x ≡ y)
mapped f None y is = absurd (cc (is))
mapped f (Some x) y is = (x, refl, cc (is))

pub worker_in : (task : Task) (head : Head) (child : ℕ) → AreFitPools task (workers_in head) → IsOneOf (workers_in head) child
    → IsWorkerIn head child
worker_in task head child able one =
    let p = mapped workers_of (slice_get head.pools one.place) one.pool
    (sym (slice_get-map workers_of head.pools one.place) ∙ one.at) in
    let low : child < CHILDREN = omega (arith, able.few one.place one.pool one.at, one.has.to) in
    let from : p.0.first ≤ child = subst (λ (w : Workers). w.first ≤ child) (sym p.2) one.has.from in
    let to : child < p.0.first + p.0.workers = subst (λ (w : Workers). child < w.first + w.workers) (sym p.2) one.has.to in
    elim (find (has_child child) head.pools) as (λ o. find (has_child child) head.pools ≡ o → IsWorkerIn head child) [
      | Some pool ↦ λ is. record { pool = pool; found = is; low = low; one = one }
      | None ↦ λ is. absurd (no_worker head.pools child one.place p.0 is p.1 (record { from = from; to = to }))
    ] refl
