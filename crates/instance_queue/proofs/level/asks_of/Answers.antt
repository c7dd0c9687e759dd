use Rattle.std.proofs.Common.{◌∙◌}
use Rattle.instance_queue.proofs.LevelLemmas.{asks_more}
use Rattle.instance_queue.proofs.level.asks_of.Goals as goal

pub loop-instance-preserved : goal.loop-instance-preserved
loop-instance-preserved c =
    c.in_ok-push.ensures.items
    ∙ asks_more c.args.queue.now c.args.instances.now c.loop-instance.instance-index c.instance-item.result c.in_ok-copy.field-0
    c.yields-turn.result c.loop-instance.dues.items c.loop-instance-test.true c.instance-item.is c.in_ok-copy.ensures
    c.yields-turn.ensures c.loop-instance.invariant
