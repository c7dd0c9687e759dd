-- One pool that serves all streams is fit.
use Rattle.std.proofs.Common.{◌≡◌, ℕ, ◌+◌, ◌≤◌, ◌<◌, ◌==◌, true, [], ◌∷◌, length, sym, ap, subst, ◌∙◌, arith, Some, None, cond}
use Rattle.std.specs.List.{list_any}
use Rattle.lemmas.proofs.Numbers.{in_numbers}
use Rattle.lemmas.proofs.Members.{get_single}
use Rattle.lemmas.specs.Lists.{numbers_from}
use Rattle.task_model.specs.declared.task.Task.{Task}
use Rattle.pools.specs.Pools.{AreFitPools, Workers, has_stream, server}

module _ (task : Task) (pool : Workers) (first : pool.first ≡ 0) (some : 1 ≤ pool.workers)
    (few : pool.workers ≤ 16) (streams : pool.streams ≡ numbers_from 0 (length task.streams)) where
  served_by : (stream : ℕ) → stream < length task.streams → server (pool ∷ []) stream ≡ Some pool
  served_by stream lt =
      let serving : has_stream pool stream ≡ true =
      ap (λ ns. list_any (λ s. s == stream) ns) streams ∙ in_numbers 0 (length task.streams) stream (omega arith) (omega (arith, lt)) in
      ap (λ b. cond b (Some pool) None) serving

  pub one_pool : AreFitPools task (pool ∷ [])
  one_pool = record {
    served = λ stream lt. (pool, served_by stream lt);
    apart = λ j k child p q at_j at_k in_p in_q. (get_single pool p j at_j).0 ∙ sym (get_single pool q k at_k).0;
    once = λ j k stream p q at_j at_k in_p in_q. (get_single pool p j at_j).0 ∙ sym (get_single pool q k at_k).0;
    some = λ k p at. subst (λ (w : Workers). 1 ≤ w.workers) (get_single pool p k at).1 some;
    few = λ k p at. subst (λ (w : Workers). w.first + w.workers ≤ 17) (get_single pool p k at).1 (omega (arith, first, few));
  }
