use Rattle.std.proofs.Common.{arith}
use Rattle.fact_join.proofs.partial.Partial.objects.Goals as goal

pub returns : goal.returns
returns c slot object within at =
    c.loop-slot.invariant.1 slot object (omega (arith, within, c.loop-slot-test.false)) at
