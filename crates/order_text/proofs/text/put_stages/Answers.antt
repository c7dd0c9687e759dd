use Rattle.std.proofs.Common.{◌∙◌}
use Rattle.order_text.proofs.TextsLemmas.{stage_put}
use Rattle.order_text.proofs.text.put_stages.Goals as goal

pub loop-below-preserved : goal.loop-below-preserved
loop-below-preserved c =
    c.in_ok-put_stage.ensures
    ∙ stage_put c.args.stages.now c.loop-below.below c.args.text.now.items c.loop-below.text.items c.loop-below.invariant
