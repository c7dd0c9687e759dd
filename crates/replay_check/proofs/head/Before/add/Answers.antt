use Rattle.std.proofs.Common.{◌≡◌, ◌+◌, ◌≤◌, ◌++◌, List, [], ◌∷◌, ℕ, sym, ap, arith, ◌∙◌, refl}
use Rattle.std.specs.List.{filter_map}
use Rattle.transcript_model.specs.Names.{stream_named}
use Rattle.pools.specs.Pools.{Workers, share_of_workers}
use Rattle.replay_check.specs.Heads.{are_new, share_in, pool_line_streams}
use Rattle.replay_check.proofs.HeadsPoolLemmas.{pool_fits, pool_passed}
use Rattle.replay_check.proofs.head.Before.add.Goals as goal

pub returns : goal.returns
returns c = λ before h.
    let task = c.args.task.now in
    let pool = c.args.pool.now in
    let b = c.args.self.now in
    let found = rw c.in-Some.is at c.in_ok-streams.ensures.some in
    let names : c.as_slice-names.result.now ≡ pool.streams = c.as_slice-names.ensures in
    let streams : c.in-Some.streams.items ≡ pool_line_streams task pool = found.1 ∙ ap (filter_map (stream_named task)) names in
    let together : b.workers + pool.workers ≤ 17 = omega arith in
    let fits = pool_fits task before pool b h (omega arith) (omega arith) together
    (ap (are_new task b.served.items) (sym names) ∙ found.0) in
    let own : Workers = record { first = b.workers; workers = pool.workers; streams = c.from_vec-streams.result } in
    let is : share_of_workers own ≡ share_in task pool =
    ap (λ (s : List ℕ). record { workers = pool.workers; streams = s }) (c.from_vec-streams.ensures ∙ streams) in (
      fits,
      pool_passed task before pool b h _ own fits together
          (c.in_ok-push.ensures.items ∙ ap (λ (w : Workers). b.pools.items ++ w ∷ []) c.in_ok-pool.ensures) is
          (found.2 ∙ ap (λ (s : List ℕ). b.served.items ++ s) streams) refl,
    )
