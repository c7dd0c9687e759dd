use Rattle.std.proofs.Common.{◌≤◌, map, take}
use Rattle.std.specs.Io.KnownBytes.{Appends}
use Rattle.report_text.specs.Texts.{lines_text, use_line}
use Rattle.report_text.proofs.write_entry.put_uses.Given as goal

-- so many entries were written
abbrev pub invariant-loop-one : goal.invariant-loop-one
invariant-loop-one g l = record {
  told : Appends (g.O.Sink.taken l.initial.out) (g.O.Sink.taken l.out) (lines_text (map use_line (take l.one-index l.uses)));
  sink : g.O.Sink.faults l.initial.out ≤ g.O.Sink.faults l.out;
}
