use Rattle.std.proofs.Common.{sym, ◌∙◌}
use Rattle.transcript_model.proofs.RoundsFrontLemmas.{none_fit}
use Rattle.pools.proofs.PoolsFrontLemmas.{longest}
use Rattle.pools.specs.Pools.{shares_of}
use Rattle.pools.proofs.front.longest_front.Goals as goal

pub loop-count-init : goal.loop-count-init
loop-count-init c = none_fit (shares_of c.args.pools.now)

pub returns-then-not-fits : goal.returns-then-not-fits
returns-then-not-fits c =
    longest (shares_of c.args.pools.now) c.args.dues.now c.loop-count.count c.loop-count-test.true c.loop-count.invariant
    (sym c.fits.ensures ∙ c.if-not-fits.true)
