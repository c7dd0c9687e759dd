use Rattle.std.proofs.Common.{arith}
use Rattle.formula_eval.proofs.WeightLemmas.{part_lighter}
use Rattle.plan_deorder.proofs.predicates.+occurring.Goals as goal

pub put_all_occurring-put_occurring-requires : goal.put_all_occurring-put_occurring-requires
put_all_occurring-put_occurring-requires t c =
    let lighter = part_lighter c.args.parts.now c.loop-part.part-index c.part-item.result c.loop-part-test.true c.part-item.is in
    (omega (arith, c.decreases), tt)
