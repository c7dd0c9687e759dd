use Rattle.std.proofs.Common.{◌+◌, List, ℕ, arith, drop, map, subst, sym}
use Rattle.std.specs.Io.KnownBytes.{Appends}
use Rattle.lemmas.proofs.Members.{flat_map_map_next}
use Rattle.report_text.specs.Texts.{Line, call_fields, line, line_text, lines_text}
use Rattle.report_text.proofs.PrintsLemmas.{appends_then, prints_later}
use Rattle.report_text.proofs.TextsLemmas.{lines_around}
use Rattle.transcript_model.specs.declared.entry.Call.{Call}
use Rattle.report_text.proofs.lines.put_calls.Goals as goal

-- the line of a call
abbrev call_line : List ℕ → Call → Line
call_line word call = line word (call_fields call)

pub returns-in_err-put_call_line-clause-told : goal.returns-in_err-put_call_line-clause-told
returns-in_err-put_call_line-clause-told g c =
    let shown = call_line c.args.word.now in
    prints_later c.from_residual.result c.in_err-put_call_line.field-0.0 (g.O.Sink.taken c.args.out.now) (g.O.Sink.taken c.loop-call.out)
    (g.O.Sink.taken c.put_call_line.new.out) _ _ (lines_text (map shown (drop (c.loop-call.call-index + 1) c.args.calls.now))) _
    (lines_around line_text shown c.args.calls.now c.loop-call.call-index c.call-item.result c.loop-call-test.true c.call-item.is)
    c.from_residual.ensures.1 c.loop-call.invariant.told c.in_err-put_call_line.ensures.told

pub loop-call-preserved : goal.loop-call-preserved
loop-call-preserved g c = record {
  told = subst (Appends (g.O.Sink.taken c.args.out.now) (g.O.Sink.taken c.put_call_line.new.out))
      (sym (flat_map_map_next line_text (call_line c.args.word.now) c.args.calls.now c.loop-call.call-index c.call-item.result
      c.loop-call-test.true c.call-item.is)) (appends_then (g.O.Sink.taken c.args.out.now) (g.O.Sink.taken c.loop-call.out)
      (g.O.Sink.taken c.put_call_line.new.out) _ _ c.loop-call.invariant.told c.in_ok-put_call_line.ensures.told);
  sink = omega (arith, c.loop-call.invariant.sink, c.in_ok-put_call_line.ensures.cause.later);
}
