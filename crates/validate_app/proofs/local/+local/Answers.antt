use Rattle.std.proofs.Common.{arith}
use Rattle.fit_check.proofs.ConditionPartLemmas.{part_smaller}
use Rattle.validate_app.proofs.local.+local.Goals as goal

pub are_plain-is_plain-requires : goal.are_plain-is_plain-requires
are_plain-is_plain-requires t c =
    let smaller =
    part_smaller c.args.formulas.now c.loop-formula.formula-index c.formula-item.result c.loop-formula-test.true
    c.formula-item.is in
    omega (arith, smaller, c.decreases)
