use Rattle.std.proofs.Common.{◌<◌, ◌≤◌, length, All}
use Rattle.std.specs.Ordering.{nat_cmp}
use Rattle.lemmas.specs.Lists.{AreAscending}
use Rattle.dreaming.proofs.wanted.places_named.Given as goal

abbrev pub invariant-loop-place : goal.invariant-loop-place
invariant-loop-place l = record {
  below : All (λ place. place < l.place) l.places.items;
  ascend : AreAscending nat_cmp l.places.items;
  most : l.place ≤ length l.supposed.list;
}
