use Rattle.std.proofs.Common.{◌≡◌}
use Rattle.std.specs.BinaryHeap.{heap_len}
use Rattle.optimal_search.specs.Agenda.{IsAgenda}
use Rattle.optimal_search.proofs.agenda.Agenda.next.Given as goal

-- entries of closed states were passed over
abbrev pub invariant-loop-entry : goal.invariant-loop-entry
invariant-loop-entry l = IsAgenda l.self × (l.self.nodes.items ≡ l.initial.self.nodes.items)

abbrev pub decreases-loop-entry : goal.decreases-loop-entry
decreases-loop-entry l = heap_len l.self.queue
