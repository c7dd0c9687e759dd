use Rattle.std.proofs.Common.{◌≤◌}
use Rattle.grid_world.proofs.ServingLemmas.{Stands}
use Rattle.grid_world.proofs.service.serve_lines.Given as goal

abbrev pub invariant-loop : goal.invariant-loop
invariant-loop g l = record {
  stands : Stands l.grid (g.S.Source.left l.initial.source) (g.S.Source.left l.source) (g.O.Sink.taken l.initial.out)
      (g.O.Sink.taken l.out) l.held l.counter;
  source : g.S.Source.faults l.initial.source ≤ g.S.Source.faults l.source;
  sink : g.O.Sink.faults l.initial.out ≤ g.O.Sink.faults l.out;
}
