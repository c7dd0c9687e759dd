use Rattle.std.proofs.Common.{◌≤◌, map, take}
use Rattle.std.specs.Io.KnownBytes.{Appends}
use Rattle.report_text.specs.Texts.{lines_text, pool_line}
use Rattle.report_text.proofs.write_report.put_pool_lines.Given as goal

-- so many pools were written
abbrev pub invariant-loop-pool : goal.invariant-loop-pool
invariant-loop-pool g l = record {
  told : Appends (g.O.Sink.taken l.initial.out) (g.O.Sink.taken l.out) (lines_text (map pool_line (take l.pool-index l.pools)));
  sink : g.O.Sink.faults l.initial.out ≤ g.O.Sink.faults l.out;
}
