use Rattle.std.proofs.Common.{◌∙◌, ◌++◌, ◌∷◌, [], append_assoc, codes}
use Rattle.std.specs.Fmt.{decimal}
use Rattle.report_text.specs.Texts.{fields_text}
use Rattle.report_text.proofs.PrintsLemmas.{appends_then, prints_cut, prints_last, prints_later}
use Rattle.report_text.proofs.TextsLemmas.{line_further, line_third}
use Rattle.report_text.proofs.write_head.put_limits.Goals as goal

pub returns-in_err-put_begun-clause-told : goal.returns-in_err-put_begun-clause-told
returns-in_err-put_begun-clause-told g c =
    let rest = fields_text (decimal c.args.depth ∷ []) ++ 10 ∷ [] in
    prints_cut c.from_residual.result c.in_err-put_begun.field-0.0 (g.O.Sink.taken c.args.out.now) (g.O.Sink.taken c.put_begun.new.out) _
    (32 ∷ decimal c.args.states ++ rest) _
    (line_further (codes "limits") (decimal c.args.calls) (decimal c.args.states) (decimal c.args.depth ∷ [])
    ∙ append_assoc (codes "limits" ++ 32 ∷ decimal c.args.calls) (32 ∷ decimal c.args.states) rest)
    c.from_residual.ensures.1 c.in_err-put_begun.ensures.told

pub returns-in_err-put_number-clause-told : goal.returns-in_err-put_number-clause-told
returns-in_err-put_number-clause-told g c =
    prints_later c.from_residual-in_err-put_number.result c.in_err-put_number.field-0.0 (g.O.Sink.taken c.args.out.now)
    (g.O.Sink.taken c.put_begun.new.out) (g.O.Sink.taken c.put_number.new.out) _ _ (fields_text (decimal c.args.depth ∷ []) ++ 10 ∷ []) _
    (line_further (codes "limits") (decimal c.args.calls) (decimal c.args.states) (decimal c.args.depth ∷ []))
    c.from_residual-in_err-put_number.ensures.1 c.in_ok-put_begun.ensures.told c.in_err-put_number.ensures.told

pub returns-in_err-put_number-2-clause-told : goal.returns-in_err-put_number-2-clause-told
returns-in_err-put_number-2-clause-told g c =
    prints_later c.from_residual-in_err-put_number-2.result c.in_err-put_number-2.field-0.0 (g.O.Sink.taken c.args.out.now)
    (g.O.Sink.taken c.put_number.new.out) (g.O.Sink.taken c.put_number-2.new.out) _ _ (10 ∷ []) _
    (line_third (codes "limits") (decimal c.args.calls) (decimal c.args.states) (decimal c.args.depth))
    c.from_residual-in_err-put_number-2.ensures.1
    (appends_then (g.O.Sink.taken c.args.out.now) (g.O.Sink.taken c.put_begun.new.out)
    (g.O.Sink.taken c.put_number.new.out) _ _ c.in_ok-put_begun.ensures.told c.in_ok-put_number.ensures.told)
    c.in_err-put_number-2.ensures.told

pub returns-clause-told : goal.returns-clause-told
returns-clause-told g c =
    prints_last c.put.result (g.O.Sink.taken c.args.out.now) (g.O.Sink.taken c.put_number-2.new.out) (g.O.Sink.taken c.put.new.out) _ _ _
    (line_third (codes "limits") (decimal c.args.calls) (decimal c.args.states) (decimal c.args.depth))
    (appends_then (g.O.Sink.taken c.args.out.now) (g.O.Sink.taken c.put_number.new.out) (g.O.Sink.taken c.put_number-2.new.out) _ _
    (appends_then (g.O.Sink.taken c.args.out.now) (g.O.Sink.taken c.put_begun.new.out)
    (g.O.Sink.taken c.put_number.new.out) _ _ c.in_ok-put_begun.ensures.told c.in_ok-put_number.ensures.told)
    c.in_ok-put_number-2.ensures.told) c.put.ensures.told
