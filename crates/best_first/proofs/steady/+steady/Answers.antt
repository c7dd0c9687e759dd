use Rattle.std.proofs.Common.{arith}
use Rattle.formula_eval.proofs.ConditionPartLemmas.{readable_part}
use Rattle.formula_eval.proofs.WeightLemmas.{part_lighter}
use Rattle.best_first.proofs.steady.+steady.Goals as goal

pub are_steady-is_steady-requires : goal.are_steady-is_steady-requires
are_steady-is_steady-requires t c =
    let lighter = part_lighter c.args.parts.now c.loop-part.part-index c.part-item.result c.loop-part-test.true c.part-item.is in
    let readable =
    readable_part c.args.domain.now c.args.parts.now c.loop-part.part-index c.part-item.result c.requires.readable
    c.loop-part-test.true c.part-item.is in
    (omega (arith, c.decreases), (c.requires.fit, readable))
