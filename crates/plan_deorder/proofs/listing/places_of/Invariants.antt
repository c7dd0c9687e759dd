use Rattle.std.proofs.Common.{◌≡◌, length, take}
use Rattle.plan_deorder.specs.Listed.{ArePlaces}
use Rattle.plan_deorder.proofs.listing.places_of.Given as goal

-- the numbers so far have their places
abbrev pub invariant-loop-place : goal.invariant-loop-place
invariant-loop-place l = record {
  places : ArePlaces (take l.place l.listing) l.places.items;
  long : length l.places.items ≡ l.count;
}
