use Rattle.std.proofs.Common.{◌≡◌, ◌+◌, ◌++◌, drop}
use Rattle.stream_reader.specs.Cycles.{edges_from, edges_of}
use Rattle.stream_reader.proofs.cycles.edges_of.Given as goal

abbrev pub invariant-loop-stream : goal.invariant-loop-stream
invariant-loop-stream l =
    edges_of l.domain l.all ≡ l.edges.items ++ edges_from l.domain l.all (drop l.stream-index l.all)
