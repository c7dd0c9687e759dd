use Rattle.std.proofs.Common.{◌++◌, ◌∷◌, [], append_assoc, sym, ◌∙◌}
use Rattle.report_text.specs.Texts.{fields_text}
use Rattle.report_text.proofs.PrintsLemmas.{appends_then, prints_cut, prints_last, prints_later}
use Rattle.report_text.proofs.lines.put_call.Goals as goal

pub returns-in_err-put_field-clause-told : goal.returns-in_err-put_field-clause-told
returns-in_err-put_field-clause-told g c =
    prints_cut c.from_residual.result c.in_err-put_field.field-0.0 (g.O.Sink.taken c.args.out.now) (g.O.Sink.taken c.put_field.new.out) _
    (fields_text c.args.call.now.args ++ 10 ∷ []) _
    ((λ i. ((32 ∷ sym c.bytes.ensures i) ++ fields_text c.args.call.now.args) ++ 10 ∷ [])
    ∙ append_assoc (32 ∷ c.bytes.result.now) (fields_text c.args.call.now.args) (10 ∷ [])) c.from_residual.ensures.1
    c.in_err-put_field.ensures.told

pub returns-in_err-put_names-clause-told : goal.returns-in_err-put_names-clause-told
returns-in_err-put_names-clause-told g c =
    prints_later c.from_residual-in_err-put_names.result c.in_err-put_names.field-0.0 (g.O.Sink.taken c.args.out.now)
    (g.O.Sink.taken c.put_field.new.out) (g.O.Sink.taken c.put_names.new.out) _ _ (10 ∷ []) _
    (λ i. ((32 ∷ sym c.bytes.ensures i) ++ fields_text (sym c.as_slice.ensures i)) ++ 10 ∷ [])
    c.from_residual-in_err-put_names.ensures.1 c.in_ok-put_field.ensures.told c.in_err-put_names.ensures.told

pub returns-clause-told : goal.returns-clause-told
returns-clause-told g c =
    prints_last c.put.result (g.O.Sink.taken c.args.out.now) (g.O.Sink.taken c.put_names.new.out) (g.O.Sink.taken c.put.new.out) _ _ _
    (λ i. ((32 ∷ sym c.bytes.ensures i) ++ fields_text (sym c.as_slice.ensures i)) ++ 10 ∷ [])
    (appends_then (g.O.Sink.taken c.args.out.now) (g.O.Sink.taken c.put_field.new.out)
    (g.O.Sink.taken c.put_names.new.out) _ _ c.in_ok-put_field.ensures.told c.in_ok-put_names.ensures.told) c.put.ensures.told
