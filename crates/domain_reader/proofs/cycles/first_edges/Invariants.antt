use Rattle.std.proofs.Common.{◌≡◌, ◌++◌, drop}
use Rattle.domain_reader.proofs.CyclesEdgeLemmas.{edges_from}
use Rattle.domain_reader.specs.Cycles.{first_edges}
use Rattle.domain_reader.proofs.cycles.first_edges.Given as goal

abbrev pub invariant-loop-place : goal.invariant-loop-place
invariant-loop-place l =
    first_edges l.sorts ≡ l.edges ++ edges_from l.place (drop l.place l.sorts)
