use Rattle.std.proofs.Common.{◌∙◌, ◌++◌, ◌∷◌, [], append_assoc, codes, sym}
use Rattle.std.specs.Fmt.{decimal}
use Rattle.report_text.specs.Texts.{fields_text, tuple_fields}
use Rattle.report_text.proofs.PrintsLemmas.{appends_then, prints_cut, prints_last, prints_later}
use Rattle.report_text.proofs.TextsLemmas.{line_more}
use Rattle.report_text.proofs.write_entry.put_got.Goals as goal

pub returns-in_err-put_begun-clause-told : goal.returns-in_err-put_begun-clause-told
returns-in_err-put_begun-clause-told g c =
    prints_cut c.from_residual.result c.in_err-put_begun.field-0.0 (g.O.Sink.taken c.args.out.now) (g.O.Sink.taken c.put_begun.new.out) _
    ((fields_text (tuple_fields c.args.tuples c.args.values.now)) ++ 10 ∷ []) _
    (line_more (codes "got") (decimal c.args.number) (tuple_fields c.args.tuples c.args.values.now)) c.from_residual.ensures.1
    c.in_err-put_begun.ensures.told

pub returns-in_err-put_tuples-clause-told : goal.returns-in_err-put_tuples-clause-told
returns-in_err-put_tuples-clause-told g c =
    prints_later c.from_residual-in_err-put_tuples.result c.in_err-put_tuples.field-0.0 (g.O.Sink.taken c.args.out.now)
    (g.O.Sink.taken c.put_begun.new.out) (g.O.Sink.taken c.put_tuples.new.out) _ _ (10 ∷ []) _
    (line_more (codes "got") (decimal c.args.number) (tuple_fields c.args.tuples c.args.values.now)
    ∙ sym (append_assoc (codes "got" ++ 32 ∷ decimal c.args.number)
    (fields_text (tuple_fields c.args.tuples c.args.values.now)) (10 ∷ []))) c.from_residual-in_err-put_tuples.ensures.1
    c.in_ok-put_begun.ensures.told c.in_err-put_tuples.ensures.told

pub returns-clause-told : goal.returns-clause-told
returns-clause-told g c =
    prints_last c.put.result (g.O.Sink.taken c.args.out.now) (g.O.Sink.taken c.put_tuples.new.out) (g.O.Sink.taken c.put.new.out) _ _ _
    (line_more (codes "got") (decimal c.args.number) (tuple_fields c.args.tuples c.args.values.now)
    ∙ sym (append_assoc (codes "got" ++ 32 ∷ decimal c.args.number)
    (fields_text (tuple_fields c.args.tuples c.args.values.now)) (10 ∷ [])))
    (appends_then (g.O.Sink.taken c.args.out.now) (g.O.Sink.taken c.put_begun.new.out)
    (g.O.Sink.taken c.put_tuples.new.out) _ _ c.in_ok-put_begun.ensures.told c.in_ok-put_tuples.ensures.told) c.put.ensures.told
