use Rattle.std.proofs.Common.{take}
use Rattle.skeletons.specs.Skeletons.{IsNextPick, skeletons_in}
use Rattle.skeletons.proofs.skeletons.pick_of.Given as goal

-- it is the best of the first ones
abbrev pub invariant-loop-place : goal.invariant-loop-place
invariant-loop-place l = IsNextPick (take l.place (skeletons_in l.skeletons)) l.best
