use Rattle.std.proofs.Common.{◌≡◌, ℕ, ◌+◌, ◌-◌, length}
use Rattle.io_world.specs.SureHostState.{child_of}
use Rattle.io_world.proofs.sure_host.grow.Given as goal

abbrev pub invariant-loop-alloc : goal.invariant-loop-alloc
invariant-loop-alloc l = (k : ℕ) → child_of l.children.items k ≡ child_of l.initial.children.items k

abbrev pub decreases-loop-alloc : goal.decreases-loop-alloc
decreases-loop-alloc l = (l.child + 1) - length l.children.items
