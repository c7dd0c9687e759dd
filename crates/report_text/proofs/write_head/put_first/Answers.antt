use Rattle.std.proofs.Common.{◌∙◌, ◌++◌, ◌∷◌, [], append_assoc, codes}
use Rattle.std.specs.Fmt.{decimal}
use Rattle.report_text.proofs.PrintsLemmas.{appends_then, prints_cut, prints_last, prints_later}
use Rattle.report_text.proofs.TextsLemmas.{line_further}
use Rattle.report_text.proofs.write_head.put_first.Goals as goal

pub returns-in_err-put_begun-clause-told : goal.returns-in_err-put_begun-clause-told
returns-in_err-put_begun-clause-told g c =
    prints_cut c.from_residual.result c.in_err-put_begun.field-0.0 (g.O.Sink.taken c.args.out.now) (g.O.Sink.taken c.put_begun.new.out) _
    (32 ∷ c.args.mode.now ++ 10 ∷ []) _
    (line_further (codes "pddlstream") (decimal c.args.version) c.args.mode.now []
    ∙ append_assoc (codes "pddlstream" ++ 32 ∷ decimal c.args.version) (32 ∷ c.args.mode.now) (10 ∷ []))
    c.from_residual.ensures.1 c.in_err-put_begun.ensures.told

pub returns-in_err-put_field-clause-told : goal.returns-in_err-put_field-clause-told
returns-in_err-put_field-clause-told g c =
    prints_later c.from_residual-in_err-put_field.result c.in_err-put_field.field-0.0 (g.O.Sink.taken c.args.out.now)
    (g.O.Sink.taken c.put_begun.new.out) (g.O.Sink.taken c.put_field.new.out) _ _ (10 ∷ []) _
    (line_further (codes "pddlstream") (decimal c.args.version) c.args.mode.now [])
    c.from_residual-in_err-put_field.ensures.1 c.in_ok-put_begun.ensures.told c.in_err-put_field.ensures.told

pub returns-clause-told : goal.returns-clause-told
returns-clause-told g c =
    prints_last c.put.result (g.O.Sink.taken c.args.out.now) (g.O.Sink.taken c.put_field.new.out) (g.O.Sink.taken c.put.new.out) _ _ _
    (line_further (codes "pddlstream") (decimal c.args.version) c.args.mode.now [])
    (appends_then (g.O.Sink.taken c.args.out.now) (g.O.Sink.taken c.put_begun.new.out)
    (g.O.Sink.taken c.put_field.new.out) _ _ c.in_ok-put_begun.ensures.told c.in_ok-put_field.ensures.told) c.put.ensures.told
