use Rattle.std.proofs.Common.{◌≡◌, ℕ, ◌<◌, true, false, slice_index}
use Rattle.fit_check.proofs.graph.advance.Given as goal
use Rattle.fit_check.specs.Cycles.{IsSettled, work_left}

-- nothing has moved, or some work is done; the nodes before this one lead on as long as nothing has moved
abbrev pub invariant-loop-from : goal.invariant-loop-from
invariant-loop-from g l = record {
  settled : IsSettled (g.G.Graph.edge l.graph) (g.G.Graph.size l.graph) l.next;
  moved : l.moved ≡ true
      → work_left (g.G.Graph.size l.graph) l.next < work_left (g.G.Graph.size l.graph) l.initial.next;
  still : l.moved ≡ false
      → (l.next ≡ l.initial.next)
      × ((i : ℕ) → i < l.from → slice_index l.next i < g.G.Graph.size l.graph
      → (g.G.Graph.edge l.graph i (slice_index l.next i) ≡ true)
      × (slice_index l.next (slice_index l.next i) < g.G.Graph.size l.graph));
}
