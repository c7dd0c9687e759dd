use Rattle.std.proofs.Common.{◌+◌, arith, drop, map, subst, sym}
use Rattle.std.specs.Io.KnownBytes.{Appends}
use Rattle.lemmas.proofs.Members.{flat_map_map_next}
use Rattle.report_text.specs.Texts.{line_text, lines_text, use_line}
use Rattle.report_text.proofs.PrintsLemmas.{appends_then, prints_later}
use Rattle.report_text.proofs.TextsLemmas.{lines_around}
use Rattle.report_text.proofs.write_entry.put_uses.Goals as goal

pub returns-in_err-put_use-clause-told : goal.returns-in_err-put_use-clause-told
returns-in_err-put_use-clause-told g c =
    prints_later c.from_residual.result c.in_err-put_use.field-0.0 (g.O.Sink.taken c.args.out.now) (g.O.Sink.taken c.loop-one.out)
    (g.O.Sink.taken c.put_use.new.out) _ _ (lines_text (map use_line (drop (c.loop-one.one-index + 1) c.args.uses.now))) _
    (lines_around line_text use_line c.args.uses.now c.loop-one.one-index c.one-item.result c.loop-one-test.true c.one-item.is)
    c.from_residual.ensures.1 c.loop-one.invariant.told c.in_err-put_use.ensures.told

pub loop-one-preserved : goal.loop-one-preserved
loop-one-preserved g c = record {
  told = subst (Appends (g.O.Sink.taken c.args.out.now) (g.O.Sink.taken c.put_use.new.out))
      (sym (flat_map_map_next line_text use_line c.args.uses.now c.loop-one.one-index c.one-item.result c.loop-one-test.true c.one-item.is))
      (appends_then (g.O.Sink.taken c.args.out.now) (g.O.Sink.taken c.loop-one.out)
      (g.O.Sink.taken c.put_use.new.out) _ _ c.loop-one.invariant.told c.in_ok-put_use.ensures.told);
  sink = omega (arith, c.loop-one.invariant.sink, c.in_ok-put_use.ensures.cause.later);
}
