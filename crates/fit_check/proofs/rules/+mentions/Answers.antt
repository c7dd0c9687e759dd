use Rattle.std.proofs.Common.{arith}
use Rattle.fit_check.proofs.ConditionPartLemmas.{part_smaller}
use Rattle.fit_check.proofs.rules.+mentions.Goals as goal

pub any_mentions-mentions-requires : goal.any_mentions-mentions-requires
any_mentions-mentions-requires t c =
    let smaller = part_smaller c.args.parts.now c.loop-part.part-index c.part-item.result c.loop-part-test.true c.part-item.is in
    (omega (arith, c.decreases), tt)
