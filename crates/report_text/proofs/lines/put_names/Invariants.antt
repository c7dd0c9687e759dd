use Rattle.std.proofs.Common.{◌≤◌, take}
use Rattle.std.specs.Io.KnownBytes.{Appends}
use Rattle.report_text.specs.Texts.{fields_text}
use Rattle.report_text.proofs.lines.put_names.Given as goal

-- so many names were written
abbrev pub invariant-loop-name : goal.invariant-loop-name
invariant-loop-name g l = record {
  told : Appends (g.O.Sink.taken l.initial.out) (g.O.Sink.taken l.out) (fields_text (take l.name-index l.names));
  sink : g.O.Sink.faults l.initial.out ≤ g.O.Sink.faults l.out;
}
