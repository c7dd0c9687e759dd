use Rattle.std.proofs.Common.{◌≡◌}
use Rattle.std.specs.List.{flat_map}
use Rattle.lemmas.specs.Lists.{numbers_from}
use Rattle.plan_deorder.specs.Clashes.{pairs_from}
use Rattle.plan_deorder.proofs.order.pairs_of.Given as goal

-- the rows so far
abbrev pub invariant-loop-first : goal.invariant-loop-first
invariant-loop-first l = l.pairs.items ≡ flat_map (pairs_from l.touched) (numbers_from 0 l.first)
