use Rattle.std.proofs.Common.{◌++◌, ◌∷◌, [], append_assoc}
use Rattle.report_text.specs.Texts.{call_fields, fields_text}
use Rattle.report_text.proofs.PrintsLemmas.{prints_cut, prints_last}
use Rattle.report_text.proofs.lines.put_call_line.Goals as goal

pub returns-in_err-put-clause-told : goal.returns-in_err-put-clause-told
returns-in_err-put-clause-told g c =
    prints_cut c.from_residual.result c.in_err-put.field-0.0 (g.O.Sink.taken c.args.out.now) (g.O.Sink.taken c.put.new.out) _
    (fields_text (call_fields c.args.call.now) ++ 10 ∷ []) _
    (append_assoc c.args.word.now (fields_text (call_fields c.args.call.now)) (10 ∷ [])) c.from_residual.ensures.1
    c.in_err-put.ensures.told

pub returns-clause-told : goal.returns-clause-told
returns-clause-told g c =
    prints_last c.put_call.result (g.O.Sink.taken c.args.out.now) (g.O.Sink.taken c.put.new.out) (g.O.Sink.taken c.put_call.new.out) _ _ _
    (append_assoc c.args.word.now (fields_text (call_fields c.args.call.now)) (10 ∷ [])) c.in_ok-put.ensures.told c.put_call.ensures.told
