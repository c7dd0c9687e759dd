use Rattle.std.proofs.Common.{◌≤◌, map, take}
use Rattle.std.specs.Io.KnownBytes.{Appends}
use Rattle.report_text.specs.Texts.{from_line, lines_text}
use Rattle.report_text.proofs.write_outcome.put_origins.Given as goal

-- so many objects were written
abbrev pub invariant-loop-origin : goal.invariant-loop-origin
invariant-loop-origin g l = record {
  told : Appends (g.O.Sink.taken l.initial.out) (g.O.Sink.taken l.out)
      (lines_text (map (from_line l.version) (take l.origin-index l.from)));
  sink : g.O.Sink.faults l.initial.out ≤ g.O.Sink.faults l.out;
}
