use Rattle.std.proofs.Common.{take}
use Rattle.dream_check.specs.Listed.{HasTakenUses}
use Rattle.dream_check.proofs.uses.take_uses.Given as goal

-- the uses so far were taken
abbrev pub invariant-loop-place : goal.invariant-loop-place
invariant-loop-place l =
    HasTakenUses l.fn.listing.task.now l.fn.listing.supposed.now (take l.place l.fn.uses) l.part l.next
