use Rattle.std.proofs.Common.{◌≡◌, map}
use Rattle.lemmas.specs.Lists.{numbers_from}
use Rattle.plan_deorder.specs.Occurring.{below_in}
use Rattle.plan_deorder.proofs.predicates.edges_of.Given as goal

-- the edges of the predicates so far
abbrev pub invariant-loop-pred : goal.invariant-loop-pred
invariant-loop-pred l = l.edges.items ≡ map (below_in l.domain.derived) (numbers_from 0 l.pred)
