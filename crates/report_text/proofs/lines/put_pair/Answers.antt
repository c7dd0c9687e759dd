use Rattle.std.proofs.Common.{◌∙◌, ◌++◌, ◌∷◌, [], append_assoc}
use Rattle.report_text.proofs.PrintsLemmas.{appends_then, prints_cut, prints_last, prints_later}
use Rattle.report_text.proofs.TextsLemmas.{line_further}
use Rattle.report_text.proofs.lines.put_pair.Goals as goal

pub returns-in_err-put_begun-clause-told : goal.returns-in_err-put_begun-clause-told
returns-in_err-put_begun-clause-told g c =
    prints_cut c.from_residual.result c.in_err-put_begun.field-0.0 (g.O.Sink.taken c.args.out.now) (g.O.Sink.taken c.put_begun.new.out) _
    (32 ∷ g.N.Integer.text c.args.second ++ 10 ∷ []) _
    (line_further c.args.word.now (g.N.Integer.text c.args.first) (g.N.Integer.text c.args.second) []
    ∙ append_assoc (c.args.word.now ++ 32 ∷ g.N.Integer.text c.args.first) (32 ∷ g.N.Integer.text c.args.second) (10 ∷ []))
    c.from_residual.ensures.1 c.in_err-put_begun.ensures.told

pub returns-in_err-put_number-clause-told : goal.returns-in_err-put_number-clause-told
returns-in_err-put_number-clause-told g c =
    prints_later c.from_residual-in_err-put_number.result c.in_err-put_number.field-0.0 (g.O.Sink.taken c.args.out.now)
    (g.O.Sink.taken c.put_begun.new.out) (g.O.Sink.taken c.put_number.new.out) _ _ (10 ∷ []) _
    (line_further c.args.word.now (g.N.Integer.text c.args.first) (g.N.Integer.text c.args.second) [])
    c.from_residual-in_err-put_number.ensures.1 c.in_ok-put_begun.ensures.told c.in_err-put_number.ensures.told

pub returns-clause-told : goal.returns-clause-told
returns-clause-told g c =
    prints_last c.put.result (g.O.Sink.taken c.args.out.now) (g.O.Sink.taken c.put_number.new.out) (g.O.Sink.taken c.put.new.out) _ _ _
    (line_further c.args.word.now (g.N.Integer.text c.args.first) (g.N.Integer.text c.args.second) [])
    (appends_then (g.O.Sink.taken c.args.out.now) (g.O.Sink.taken c.put_begun.new.out)
    (g.O.Sink.taken c.put_number.new.out) _ _ c.in_ok-put_begun.ensures.told c.in_ok-put_number.ensures.told) c.put.ensures.told
