use Rattle.std.proofs.Common.{◌≡◌}
use Rattle.lemmas.specs.Lists.{numbers_from}
use Rattle.optimistic_set.proofs.placeholders.fresh_objects.Given as goal

-- so many objects are there
abbrev pub invariant-loop-number : goal.invariant-loop-number
invariant-loop-number l = l.row ≡ numbers_from l.first l.number
