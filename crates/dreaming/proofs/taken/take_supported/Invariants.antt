use Rattle.std.proofs.Common.{◌≡◌, drop}
use Rattle.dreaming.specs.Thinning.{IsPartAt, supported_places}
use Rattle.dreaming.proofs.taken.take_supported.Given as goal

-- what is left to be taken comes to what was to be taken at first
abbrev pub invariant-loop-place : goal.invariant-loop-place
invariant-loop-place l = record {
  part : IsPartAt l.listing.task.now l.listing.supposed.now l.part.places l.part;
  rest : supported_places l.listing.task.now l.listing.supposed.now.base l.listing.supposed.now.list l.part.places
      (drop l.place-index l.places)
      ≡ supported_places l.listing.task.now l.listing.supposed.now.base l.listing.supposed.now.list l.initial.part.places l.places;
}
