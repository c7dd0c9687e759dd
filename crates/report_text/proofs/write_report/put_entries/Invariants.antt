use Rattle.std.proofs.Common.{◌≤◌, take}
use Rattle.std.specs.Io.KnownBytes.{Appends}
use Rattle.std.specs.List.{flat_map}
use Rattle.report_text.specs.Texts.{text_of_entry}
use Rattle.report_text.proofs.write_report.put_entries.Given as goal

-- so many entries were written
abbrev pub invariant-loop-entry : goal.invariant-loop-entry
invariant-loop-entry g l = record {
  told : Appends (g.O.Sink.taken l.initial.out) (g.O.Sink.taken l.out) (flat_map text_of_entry (take l.entry-index l.entries));
  sink : g.O.Sink.faults l.initial.out ≤ g.O.Sink.faults l.out;
}
