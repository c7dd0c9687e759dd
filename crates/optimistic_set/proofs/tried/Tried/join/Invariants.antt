use Rattle.std.proofs.Common.{◌≡◌, ◌++◌, take}
use Rattle.instance_queue.specs.Level.{due_instances}
use Rattle.optimistic_set.proofs.tried.Tried.join.Given as goal

-- the first of them are there
abbrev pub invariant-loop-ask : goal.invariant-loop-ask
invariant-loop-ask l = l.self ≡ l.fn.self ++ due_instances (take l.ask-index l.asks)
