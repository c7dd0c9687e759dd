use Rattle.std.proofs.Common.{take}
use Rattle.dreaming.specs.Thinning.{IsPartAt}
use Rattle.dreaming.proofs.taken.take_all.Given as goal

abbrev pub invariant-loop-place : goal.invariant-loop-place
invariant-loop-place l = IsPartAt l.listing.task.now l.listing.supposed.now (take l.place-index l.places) l.part
