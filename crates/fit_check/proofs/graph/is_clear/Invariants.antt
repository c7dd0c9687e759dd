use Rattle.fit_check.specs.Cycles.{IsSettled, work_left}
use Rattle.fit_check.proofs.graph.is_clear.Given as goal

abbrev pub invariant-loop : goal.invariant-loop
invariant-loop g l = IsSettled (g.G.Graph.edge l.graph) (g.G.Graph.size l.graph) l.next

abbrev pub decreases-loop : goal.decreases-loop
decreases-loop g l = work_left (g.G.Graph.size l.graph) l.next
