use Rattle.fact_join.specs.Partials.{AreFixed}
use Rattle.fact_join.proofs.partial.Partial.free_slot.Given as goal

-- those that were passed have objects
abbrev pub invariant-loop-slot : goal.invariant-loop-slot
invariant-loop-slot l = AreFixed l.self l.slot
