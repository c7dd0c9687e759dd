use Rattle.std.proofs.Common.{◌≡◌, take}
use Rattle.dreaming.specs.Parts.{entries_at}
use Rattle.dreaming.proofs.shown.entries_of.Given as goal

abbrev pub invariant-loop-place : goal.invariant-loop-place
invariant-loop-place l = l.entries.items ≡ entries_at l.supposed.list (take l.place-index l.places)
