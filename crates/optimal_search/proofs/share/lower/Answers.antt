use Rattle.task_model.specs.State.{contains}
use Rattle.optimal_search.proofs.ShareLoops.{lowered_next}
use Rattle.optimal_search.proofs.share.lower.Goals as goal

pub loop-share-preserved : goal.loop-share-preserved
loop-share-preserved c =
    lowered_next (contains c.args.come.now) c.args.most c.args.shares.now c.loop-share.shares c.loop-share.share-index
    c.share-item.result c.lesser-share.result c.has.result c.loop-share-test.true c.loop-share.invariant c.share-item.is
    c.lesser-share.ensures c.has.ensures
