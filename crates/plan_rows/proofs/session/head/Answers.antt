use Rattle.std.proofs.Common.{ap, sym, subst, map, length, refl}
use Rattle.pools.specs.Pools.{AreFitPools, Workers, workers_of}
use Rattle.lemmas.specs.Lists.{numbers_from}
use Rattle.plan_rows.proofs.PoolsLemmas.{one_pool}
use Rattle.plan_rows.proofs.session.head.Goals as goal

pub returns : goal.returns
returns c =
    let task = c.args.task.now in
    let pool : Workers = record { first = 0; workers = c.args.workers; streams = numbers_from 0 (length task.streams) } in
    record {
      some_version = c.requires.some_version;
      version = c.requires.version;
      some_calls = c.requires.some_calls;
      calls = c.requires.calls;
      pools = subst (AreFitPools task) (sym (ap (map workers_of) c.in_ok-pools.ensures))
          (one_pool task pool refl c.requires.some_workers c.requires.workers refl);
    }
