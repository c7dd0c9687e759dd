use Rattle.std.proofs.Common.{◌≡◌, ℕ, ◌<◌, ◌≤◌, true, slice_index}
use Rattle.fit_check.proofs.graph.next_open.Given as goal

-- edges to the nodes before this one lead to nodes that are done
abbrev pub invariant-loop-to : goal.invariant-loop-to
invariant-loop-to g l =
    (k : ℕ) → slice_index l.next l.from ≤ k → k < l.to → g.G.Graph.edge l.graph l.from k ≡ true
    → g.G.Graph.size l.graph ≤ slice_index l.next k
