use Rattle.std.proofs.Common.{◌∷◌, ◌++◌, ◌+◌, ◌∙◌, arith, drop, subst, sym, take}
use Rattle.std.specs.Io.KnownBytes.{Appends}
use Rattle.lemmas.proofs.Members.{flat_map_next}
use Rattle.report_text.specs.Texts.{fields_text}
use Rattle.report_text.proofs.PrintsLemmas.{appends_then, prints_later}
use Rattle.report_text.proofs.TextsLemmas.{around}
use Rattle.report_text.proofs.lines.put_names.Goals as goal

pub returns-in_err-put_field-clause-told : goal.returns-in_err-put_field-clause-told
returns-in_err-put_field-clause-told g c =
    prints_later c.from_residual.result c.in_err-put_field.field-0.0 (g.O.Sink.taken c.args.out.now) (g.O.Sink.taken c.loop-name.out)
    (g.O.Sink.taken c.put_field.new.out) _ _ (fields_text (drop (c.loop-name.name-index + 1) c.args.names.now)) _
    (around (λ field. 32 ∷ field) c.args.names.now c.loop-name.name-index c.name-item.result c.loop-name-test.true c.name-item.is
    ∙ (λ i. (fields_text (take c.loop-name.name-index c.args.names.now) ++ 32 ∷ sym c.bytes.ensures i)
    ++ fields_text (drop (c.loop-name.name-index + 1) c.args.names.now))) c.from_residual.ensures.1 c.loop-name.invariant.told
    c.in_err-put_field.ensures.told

pub loop-name-preserved : goal.loop-name-preserved
loop-name-preserved g c = record {
  told = subst (Appends (g.O.Sink.taken c.args.out.now) (g.O.Sink.taken c.put_field.new.out))
      (sym (flat_map_next (λ field. 32 ∷ field) c.args.names.now c.loop-name.name-index c.name-item.result c.loop-name-test.true
      c.name-item.is
      ∙ (λ i. fields_text (take c.loop-name.name-index c.args.names.now) ++ 32 ∷ sym c.bytes.ensures i)))
      (appends_then (g.O.Sink.taken c.args.out.now) (g.O.Sink.taken c.loop-name.out)
      (g.O.Sink.taken c.put_field.new.out) _ _ c.loop-name.invariant.told c.in_ok-put_field.ensures.told);
  sink = omega (arith, c.loop-name.invariant.sink, c.in_ok-put_field.ensures.cause.later);
}
