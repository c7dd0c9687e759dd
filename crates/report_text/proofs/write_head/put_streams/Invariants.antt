use Rattle.std.proofs.Common.{◌≤◌, map, take}
use Rattle.std.specs.Io.KnownBytes.{Appends}
use Rattle.gen_lines.specs.Request.{stream_name}
use Rattle.report_text.specs.Texts.{fields_text}
use Rattle.report_text.proofs.write_head.put_streams.Given as goal

-- the names of so many streams were written
abbrev pub invariant-loop-stream : goal.invariant-loop-stream
invariant-loop-stream g l = record {
  told : Appends (g.O.Sink.taken l.initial.out) (g.O.Sink.taken l.out)
      (fields_text (map (stream_name l.task) (take l.stream-index l.streams)));
  sink : g.O.Sink.faults l.initial.out ≤ g.O.Sink.faults l.out;
}
