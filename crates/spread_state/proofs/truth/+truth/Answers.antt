use Rattle.std.proofs.Common.{rules}
use Rattle.formula_eval.proofs.ConditionPartLemmas.{readable_part}
use Rattle.formula_eval.proofs.WeightLemmas.{part_lighter}
use Rattle.spread_state.proofs.truth.+truth.Goals as goal

pub all_true-truth-requires : goal.all_true-truth-requires
all_true-truth-requires g t c κs within =
    let lighter = part_lighter c.args.parts.now c.loop-part.part-index c.part-item.result c.loop-part-test.true
    c.part-item.is in
    let readable =
    readable_part c.args.scene.now.task.now.domain c.args.parts.now c.loop-part.part-index c.part-item.result
    c.requires.readable
    c.loop-part-test.true c.part-item.is in
    search rules

pub any_true-truth-requires : goal.any_true-truth-requires
any_true-truth-requires g t c κs within =
    let lighter = part_lighter c.args.parts.now c.loop-part.part-index c.part-item.result c.loop-part-test.true
    c.part-item.is in
    let readable =
    readable_part c.args.scene.now.task.now.domain c.args.parts.now c.loop-part.part-index c.part-item.result
    c.requires.readable
    c.loop-part-test.true c.part-item.is in
    search rules
