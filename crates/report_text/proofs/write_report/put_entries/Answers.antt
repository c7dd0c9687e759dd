use Rattle.std.proofs.Common.{◌+◌, arith, drop, subst, sym}
use Rattle.std.specs.Io.KnownBytes.{Appends}
use Rattle.std.specs.List.{flat_map}
use Rattle.lemmas.proofs.Members.{flat_map_next}
use Rattle.report_text.specs.Texts.{text_of_entry}
use Rattle.report_text.proofs.PrintsLemmas.{appends_then, prints_later}
use Rattle.report_text.proofs.TextsLemmas.{around}
use Rattle.report_text.proofs.write_report.put_entries.Goals as goal

pub returns-in_err-put_entry-clause-told : goal.returns-in_err-put_entry-clause-told
returns-in_err-put_entry-clause-told g c =
    prints_later c.from_residual.result c.in_err-put_entry.field-0.0 (g.O.Sink.taken c.args.out.now) (g.O.Sink.taken c.loop-entry.out)
    (g.O.Sink.taken c.put_entry.new.out) _ _ (flat_map text_of_entry (drop (c.loop-entry.entry-index + 1) c.args.entries.now)) _
    (around text_of_entry c.args.entries.now c.loop-entry.entry-index c.entry-item.result c.loop-entry-test.true c.entry-item.is)
    c.from_residual.ensures.1 c.loop-entry.invariant.told c.in_err-put_entry.ensures.told

pub loop-entry-preserved : goal.loop-entry-preserved
loop-entry-preserved g c = record {
  told = subst (Appends (g.O.Sink.taken c.args.out.now) (g.O.Sink.taken c.put_entry.new.out))
      (sym (flat_map_next text_of_entry c.args.entries.now c.loop-entry.entry-index c.entry-item.result c.loop-entry-test.true
      c.entry-item.is)) (appends_then (g.O.Sink.taken c.args.out.now) (g.O.Sink.taken c.loop-entry.out)
      (g.O.Sink.taken c.put_entry.new.out) _ _ c.loop-entry.invariant.told c.in_ok-put_entry.ensures.told);
  sink = omega (arith, c.loop-entry.invariant.sink, c.in_ok-put_entry.ensures.cause.later);
}
