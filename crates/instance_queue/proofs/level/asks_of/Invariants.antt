use Rattle.std.proofs.Common.{◌≡◌, take}
use Rattle.instance_queue.specs.Asks.{dues_of_instances}
use Rattle.instance_queue.proofs.level.asks_of.Given as goal

-- the asks of the instances that were passed are there
abbrev pub invariant-loop-instance : goal.invariant-loop-instance
invariant-loop-instance l = l.dues.items ≡ dues_of_instances l.queue (take l.instance-index l.instances)
