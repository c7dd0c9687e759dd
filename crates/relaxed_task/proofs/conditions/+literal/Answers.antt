use Rattle.std.proofs.Common.{arith}
use Rattle.formula_eval.proofs.ConditionPartLemmas.{readable_part}
use Rattle.formula_eval.proofs.WeightLemmas.{part_lighter}
use Rattle.relaxed_task.proofs.conditions.+literal.Goals as goal

pub parts_literal-literal-requires : goal.parts_literal-literal-requires
parts_literal-literal-requires g t c κs within =
    let lighter = part_lighter c.args.parts.now c.loop-part.part-index c.part-item.result c.loop-part-test.true c.part-item.is in
    let readable =
    readable_part c.args.scene.now.task.now.domain c.args.parts.now c.loop-part.part-index c.part-item.result c.requires.readable
    c.loop-part-test.true c.part-item.is in
    (omega (arith, c.decreases), (within, (c.requires.fit, readable)))
