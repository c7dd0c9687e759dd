use Rattle.std.proofs.Common.{◌≡◌, ◌++◌, ◌-◌, replicate, true, false}
use Rattle.fit_check.proofs.slots.Slots.first.Given as goal

-- the flags before this one are up
abbrev pub invariant-loop-place : goal.invariant-loop-place
invariant-loop-place l = l.filled ≡ replicate l.place true ++ replicate (16 - l.place) false
