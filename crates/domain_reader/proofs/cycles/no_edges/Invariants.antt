use Rattle.std.proofs.Common.{◌≡◌, ◌++◌, drop}
use Rattle.domain_reader.specs.Cycles.{no_edges}
use Rattle.domain_reader.proofs.cycles.no_edges.Given as goal

abbrev pub invariant-loop-place : goal.invariant-loop-place
invariant-loop-place l =
    no_edges l.predicates.names ≡ l.edges ++ no_edges (drop l._place l.predicates.names)
