use Rattle.std.proofs.Common.{◌+◌, ◌∷◌, arith, drop, get_or, map, subst, sym}
use Rattle.std.proofs.lemmas.List.{get_or_default}
use Rattle.std.specs.Io.KnownBytes.{Appends}
use Rattle.gen_lines.specs.Request.{stream_name}
use Rattle.lemmas.proofs.Members.{flat_map_map_next}
use Rattle.report_text.specs.Texts.{fields_text}
use Rattle.report_text.proofs.PrintsLemmas.{appends_then, prints_later}
use Rattle.report_text.proofs.TextsLemmas.{lines_around}
use Rattle.report_text.proofs.write_head.put_streams.Goals as goal

pub returns-in_err-put_stream-clause-told : goal.returns-in_err-put_stream-clause-told
returns-in_err-put_stream-clause-told g c =
    let shown = stream_name c.args.task.now in
    let place = c.loop-stream.stream-index in
    let stream = get_or c.args.streams.now place 0 in
    prints_later c.from_residual.result c.in_err-put_stream.field-0.0 (g.O.Sink.taken c.args.out.now) (g.O.Sink.taken c.loop-stream.out)
    (g.O.Sink.taken c.put_stream.new.out) _ _ (fields_text (map shown (drop (place + 1) c.args.streams.now))) _
    (lines_around (λ field. 32 ∷ field) shown c.args.streams.now place stream c.loop-stream-test.true
    (get_or_default c.args.streams.now place 0 stream c.loop-stream-test.true))
    c.from_residual.ensures.1 c.loop-stream.invariant.told c.in_err-put_stream.ensures.told

pub loop-stream-preserved : goal.loop-stream-preserved
loop-stream-preserved g c =
    let place = c.loop-stream.stream-index in
    let stream = get_or c.args.streams.now place 0 in
    record {
      told = subst (Appends (g.O.Sink.taken c.args.out.now) (g.O.Sink.taken c.put_stream.new.out))
          (sym (flat_map_map_next (λ field. 32 ∷ field) (stream_name c.args.task.now) c.args.streams.now place stream
          c.loop-stream-test.true (get_or_default c.args.streams.now place 0 stream c.loop-stream-test.true)))
          (appends_then (g.O.Sink.taken c.args.out.now) (g.O.Sink.taken c.loop-stream.out)
          (g.O.Sink.taken c.put_stream.new.out) _ _ c.loop-stream.invariant.told c.in_ok-put_stream.ensures.told);
      sink = omega (arith, c.loop-stream.invariant.sink, c.in_ok-put_stream.ensures.cause.later);
    }
