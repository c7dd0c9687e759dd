use Rattle.std.proofs.Common.{take}
use Rattle.dream_asks.specs.Next.{AreDuesOf}
use Rattle.dream_asks.proofs.asks.dues_of.Given as goal

-- the first asks with their turns
abbrev pub invariant-loop-ask : goal.invariant-loop-ask
invariant-loop-ask l = AreDuesOf l.queue (take l.ask-index l.asks) l.dues.items
