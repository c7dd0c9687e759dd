use Rattle.std.proofs.Common.{arith, sym, ◌∙◌}
use Rattle.instance_queue.specs.Level.{due_instances}
use Rattle.pools.proofs.PoolsLemmas.{too_many, few_enough}
use Rattle.pools.proofs.front.fits.Goals as goal

pub returns-then-served-count : goal.returns-then-served-count
returns-then-served-count c =
    sym (sym c.loop-pool.invariant
    ∙ too_many c.args.pools.now c.loop-pool.pool-index c.pool-item.result (due_instances c.args.dues.now) c.loop-pool-test.true
    c.pool-item.is (omega (arith, c.served.ensures.count, c.if-served-count.true)))

pub loop-pool-preserved : goal.loop-pool-preserved
loop-pool-preserved c =
    sym (few_enough c.args.pools.now c.loop-pool.pool-index c.pool-item.result (due_instances c.args.dues.now) c.loop-pool-test.true
    c.pool-item.is (omega (arith, c.served.ensures.count, c.if-served-count.false)))
    ∙ c.loop-pool.invariant
