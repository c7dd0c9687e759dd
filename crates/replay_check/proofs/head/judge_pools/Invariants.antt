use Rattle.std.proofs.Common.{take}
use Rattle.replay_check.specs.Headed.{IsAfter}
use Rattle.replay_check.proofs.head.judge_pools.Given as goal

-- the pools so far fit, and were passed
abbrev pub invariant-loop-place : goal.invariant-loop-place
invariant-loop-place l = IsAfter l.fn.task (take l.place l.fn.pools) l.before
