use Rattle.std.proofs.Common.{ap, not}
use Rattle.fact_join.proofs.PartialLemmas.{fixed_next}
use Rattle.fact_join.proofs.partial.Partial.free_slot.Goals as goal

pub loop-slot-preserved : goal.loop-slot-preserved
loop-slot-preserved c =
    fixed_next c.args.self.now c.loop-slot.slot c.get.result c.get.ensures (ap not c.if-is_none.ensures) c.loop-slot.invariant
