use Rattle.std.proofs.Common.{arith}
use Rattle.formula_eval.proofs.ConditionPartLemmas.{readable_part}
use Rattle.formula_eval.proofs.WeightLemmas.{part_lighter}
use Rattle.plan_deorder.proofs.reads.+reads.Goals as goal

pub put_all_reads-put_reads-requires : goal.put_all_reads-put_reads-requires
put_all_reads-put_reads-requires t c =
    let lighter = part_lighter c.args.parts.now c.loop-part.part-index c.part-item.result c.loop-part-test.true c.part-item.is in
    let readable =
    readable_part c.args.domain.now c.args.parts.now c.loop-part.part-index c.part-item.result c.requires.readable
    c.loop-part-test.true c.part-item.is in
    (omega (arith, c.decreases), (c.requires.fit, readable))
