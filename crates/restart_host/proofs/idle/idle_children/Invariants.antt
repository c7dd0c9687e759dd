use Rattle.std.proofs.Common.{◌≤◌, ◌-◌, length}
use Rattle.restart_host.specs.Kept.{AreIdle}
use Rattle.restart_host.proofs.idle.idle_children.Given as goal

abbrev pub invariant-loop-alloc : goal.invariant-loop-alloc
invariant-loop-alloc l = record {
  few : length l.children.items ≤ 17;
  idle : AreIdle l.children.items;
}

abbrev pub decreases-loop-alloc : goal.decreases-loop-alloc
decreases-loop-alloc l = 17 - length l.children.items
