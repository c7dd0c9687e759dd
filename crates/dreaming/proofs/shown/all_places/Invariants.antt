use Rattle.std.proofs.Common.{◌≡◌}
use Rattle.lemmas.specs.Lists.{numbers_from}
use Rattle.dreaming.proofs.shown.all_places.Given as goal

abbrev pub invariant-loop-place : goal.invariant-loop-place
invariant-loop-place l = l.places.items ≡ numbers_from 0 l.place
