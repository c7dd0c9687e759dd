use Rattle.name_tables.proofs.GraphsLemmas.{Explored}
use Rattle.name_tables.proofs.graph.reached_from.Given as goal

abbrev pub invariant-loop-done : goal.invariant-loop-done
invariant-loop-done l = Explored l.edges l.start l.seen.keys l.done
