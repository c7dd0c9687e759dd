use Rattle.optimal_search.specs.Share.{is_named}
use Rattle.optimal_search.proofs.ShareLoops.{lowered_next}
use Rattle.optimal_search.proofs.share.lower_named.Goals as goal

pub loop-share-preserved : goal.loop-share-preserved
loop-share-preserved c =
    lowered_next (is_named c.args.adds.now) c.args.most c.args.shares.now c.loop-share.shares c.loop-share.share-index
    c.share-item.result c.lesser-share.result c.is_named.result c.loop-share-test.true c.loop-share.invariant
    c.share-item.is
    c.lesser-share.ensures c.is_named.ensures
