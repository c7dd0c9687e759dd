use Rattle.std.proofs.Common.{◌+◌, arith, drop, map, subst, sym}
use Rattle.std.specs.Io.KnownBytes.{Appends}
use Rattle.lemmas.proofs.Members.{flat_map_map_next}
use Rattle.report_text.specs.Texts.{from_line, line_text, lines_text}
use Rattle.report_text.proofs.PrintsLemmas.{appends_then, prints_later}
use Rattle.report_text.proofs.TextsLemmas.{lines_around}
use Rattle.report_text.proofs.write_outcome.put_origins.Goals as goal

pub returns-in_err-put_origin-clause-told : goal.returns-in_err-put_origin-clause-told
returns-in_err-put_origin-clause-told g c =
    let shown = (from_line c.args.version) in
    prints_later c.from_residual.result c.in_err-put_origin.field-0.0 (g.O.Sink.taken c.args.out.now) (g.O.Sink.taken c.loop-origin.out)
    (g.O.Sink.taken c.put_origin.new.out) _ _ (lines_text (map shown (drop (c.loop-origin.origin-index + 1) c.args.from.now))) _
    (lines_around line_text shown c.args.from.now c.loop-origin.origin-index c.origin-item.result c.loop-origin-test.true c.origin-item.is)
    c.from_residual.ensures.1 c.loop-origin.invariant.told c.in_err-put_origin.ensures.told

pub loop-origin-preserved : goal.loop-origin-preserved
loop-origin-preserved g c = record {
  told = subst (Appends (g.O.Sink.taken c.args.out.now) (g.O.Sink.taken c.put_origin.new.out))
      (sym (flat_map_map_next line_text (from_line c.args.version) c.args.from.now c.loop-origin.origin-index c.origin-item.result
      c.loop-origin-test.true c.origin-item.is)) (appends_then (g.O.Sink.taken c.args.out.now) (g.O.Sink.taken c.loop-origin.out)
      (g.O.Sink.taken c.put_origin.new.out) _ _ c.loop-origin.invariant.told c.in_ok-put_origin.ensures.told);
  sink = omega (arith, c.loop-origin.invariant.sink, c.in_ok-put_origin.ensures.cause.later);
}
