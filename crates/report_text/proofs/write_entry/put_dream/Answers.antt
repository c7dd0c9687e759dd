use Rattle.std.proofs.Common.{◌∙◌, ◌++◌, ◌∷◌, [], append_assoc, codes, length, map}
use Rattle.std.specs.Fmt.{decimal}
use Rattle.report_text.specs.Texts.{line, line_text, lines_text, step_line, use_line}
use Rattle.report_text.proofs.PrintsLemmas.{appends_then, prints_cut, prints_last, prints_later}
use Rattle.report_text.proofs.TextsLemmas.{lines_three}
use Rattle.report_text.proofs.write_entry.put_dream.Goals as goal

pub returns-in_err-put_pair-clause-told : goal.returns-in_err-put_pair-clause-told
returns-in_err-put_pair-clause-told g c =
    prints_cut c.from_residual.result c.in_err-put_pair.field-0.0 (g.O.Sink.taken c.args.out.now) (g.O.Sink.taken c.put_pair.new.out) _
    (lines_text (map use_line c.args.uses.now) ++ lines_text (map step_line c.args.steps.now)) _
    (lines_three (line (codes "dream") (decimal (length c.args.uses.now) ∷ decimal (length c.args.steps.now) ∷ []))
    (map use_line c.args.uses.now) (map step_line c.args.steps.now)
    ∙ append_assoc (line_text (line (codes "dream") (decimal (length c.args.uses.now) ∷ decimal (length c.args.steps.now) ∷ [])))
    (lines_text (map use_line c.args.uses.now)) (lines_text (map step_line c.args.steps.now))) c.from_residual.ensures.1
    c.in_err-put_pair.ensures.told

pub returns-in_err-put_uses-clause-told : goal.returns-in_err-put_uses-clause-told
returns-in_err-put_uses-clause-told g c =
    prints_later c.from_residual-in_err-put_uses.result c.in_err-put_uses.field-0.0 (g.O.Sink.taken c.args.out.now)
    (g.O.Sink.taken c.put_pair.new.out) (g.O.Sink.taken c.put_uses.new.out) _ _ (lines_text (map step_line c.args.steps.now)) _
    (lines_three (line (codes "dream") (decimal (length c.args.uses.now) ∷ decimal (length c.args.steps.now) ∷ []))
    (map use_line c.args.uses.now) (map step_line c.args.steps.now)) c.from_residual-in_err-put_uses.ensures.1
    c.in_ok-put_pair.ensures.told c.in_err-put_uses.ensures.told

pub returns-clause-told : goal.returns-clause-told
returns-clause-told g c =
    prints_last c.put_calls.result (g.O.Sink.taken c.args.out.now) (g.O.Sink.taken c.put_uses.new.out) (g.O.Sink.taken c.put_calls.new.out)
    _ _ _ (lines_three (line (codes "dream") (decimal (length c.args.uses.now) ∷ decimal (length c.args.steps.now) ∷ []))
    (map use_line c.args.uses.now) (map step_line c.args.steps.now))
    (appends_then (g.O.Sink.taken c.args.out.now) (g.O.Sink.taken c.put_pair.new.out)
    (g.O.Sink.taken c.put_uses.new.out) _ _ c.in_ok-put_pair.ensures.told c.in_ok-put_uses.ensures.told) c.put_calls.ensures.told
