use Rattle.std.proofs.Common.{◌≤◌, map, take}
use Rattle.std.specs.Io.KnownBytes.{Appends}
use Rattle.report_text.specs.Texts.{call_fields, line, lines_text}
use Rattle.report_text.proofs.lines.put_calls.Given as goal

-- so many calls were written
abbrev pub invariant-loop-call : goal.invariant-loop-call
invariant-loop-call g l = record {
  told : Appends (g.O.Sink.taken l.initial.out) (g.O.Sink.taken l.out)
      (lines_text (map (λ call. line l.word (call_fields call)) (take l.call-index l.calls)));
  sink : g.O.Sink.faults l.initial.out ≤ g.O.Sink.faults l.out;
}
