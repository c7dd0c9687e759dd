use Rattle.std.proofs.Common.{take}
use Rattle.dream_asks.specs.First.{AreFirstAsks}
use Rattle.dream_asks.proofs.first.first_asks.Given as goal

-- the first entries were gone through
abbrev pub invariant-loop-entry : goal.invariant-loop-entry
invariant-loop-entry l =
    AreFirstAsks l.task l.facts.known l.queue l.real (take l.entry-index l.entries) l.asks.items
