use Rattle.std.proofs.Common.{◌∙◌, ◌++◌, ◌∷◌, [], append_assoc, codes}
use Rattle.std.specs.Fmt.{decimal}
use Rattle.report_text.specs.Texts.{call_fields, fields_text}
use Rattle.report_text.proofs.PrintsLemmas.{appends_then, prints_cut, prints_last, prints_later}
use Rattle.report_text.proofs.TextsLemmas.{line_further}
use Rattle.report_text.proofs.write_entry.put_ask.Goals as goal

pub returns-in_err-put_begun-clause-told : goal.returns-in_err-put_begun-clause-told
returns-in_err-put_begun-clause-told g c =
    prints_cut c.from_residual.result c.in_err-put_begun.field-0.0 (g.O.Sink.taken c.args.out.now) (g.O.Sink.taken c.put_begun.new.out) _
    (32 ∷ decimal c.args.turn ++ (fields_text (call_fields c.args.call.now) ++ 10 ∷ [])) _
    (line_further (codes "ask") (decimal c.args.number) (decimal c.args.turn) (call_fields c.args.call.now)
    ∙ append_assoc (codes "ask" ++ 32 ∷ decimal c.args.number)
    (32 ∷ decimal c.args.turn) (fields_text (call_fields c.args.call.now) ++ 10 ∷ [])) c.from_residual.ensures.1
    c.in_err-put_begun.ensures.told

pub returns-in_err-put_number-clause-told : goal.returns-in_err-put_number-clause-told
returns-in_err-put_number-clause-told g c =
    prints_later c.from_residual-in_err-put_number.result c.in_err-put_number.field-0.0 (g.O.Sink.taken c.args.out.now)
    (g.O.Sink.taken c.put_begun.new.out) (g.O.Sink.taken c.put_number.new.out) _ _
    (fields_text (call_fields c.args.call.now) ++ 10 ∷ []) _
    (line_further (codes "ask") (decimal c.args.number) (decimal c.args.turn) (call_fields c.args.call.now))
    c.from_residual-in_err-put_number.ensures.1 c.in_ok-put_begun.ensures.told c.in_err-put_number.ensures.told

pub returns-clause-told : goal.returns-clause-told
returns-clause-told g c =
    prints_last c.put_call.result (g.O.Sink.taken c.args.out.now) (g.O.Sink.taken c.put_number.new.out) (g.O.Sink.taken c.put_call.new.out)
    _ _ _ (line_further (codes "ask") (decimal c.args.number) (decimal c.args.turn) (call_fields c.args.call.now))
    (appends_then (g.O.Sink.taken c.args.out.now) (g.O.Sink.taken c.put_begun.new.out)
    (g.O.Sink.taken c.put_number.new.out) _ _ c.in_ok-put_begun.ensures.told c.in_ok-put_number.ensures.told)
    c.put_call.ensures.told
