use Rattle.std.proofs.Common.{take}
use Rattle.replay_check.specs.Standings.{IsStanding}
use Rattle.replay_check.proofs.entries.walk.Given as goal

-- the judge stands before the entry at this place
abbrev pub invariant-loop-place : goal.invariant-loop-place
invariant-loop-place l = IsStanding l.fn.bounds (take l.place l.fn.entries) l.standing
