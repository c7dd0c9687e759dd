use Rattle.std.proofs.Common.{◌∙◌, ◌++◌, ◌∷◌, [], append_assoc, codes, length, map}
use Rattle.std.specs.Fmt.{decimal}
use Rattle.report_text.specs.Texts.{do_line, from_line, line, line_text, lines_text}
use Rattle.report_text.proofs.PrintsLemmas.{appends_then, prints_cut, prints_last, prints_later}
use Rattle.report_text.proofs.TextsLemmas.{plan_parts}
use Rattle.report_text.proofs.write_outcome.put_plan.Goals as goal

pub returns-in_err-put_steps-clause-told : goal.returns-in_err-put_steps-clause-told
returns-in_err-put_steps-clause-told g c =
    let first = line (codes "plan") (decimal (length c.args.steps.now) ∷ []) in
    let cost = line (codes "cost") (decimal c.args.cost ∷ []) in
    let steps = map do_line c.args.steps.now in
    let from = map (from_line c.args.version) c.args.from.now in
    prints_cut c.from_residual.result c.in_err-put_steps.field-0.0 (g.O.Sink.taken c.args.out.now) (g.O.Sink.taken c.put_steps.new.out) _
    (line_text cost ++ lines_text from) _
    (plan_parts first cost steps from ∙ append_assoc (lines_text (first ∷ steps)) (line_text cost) (lines_text from))
    c.from_residual.ensures.1 c.in_err-put_steps.ensures.told

pub returns-in_err-put_numbered-clause-told : goal.returns-in_err-put_numbered-clause-told
returns-in_err-put_numbered-clause-told g c =
    let first = line (codes "plan") (decimal (length c.args.steps.now) ∷ []) in
    let cost = line (codes "cost") (decimal c.args.cost ∷ []) in
    let from = map (from_line c.args.version) c.args.from.now in
    prints_later c.from_residual-in_err-put_numbered.result c.in_err-put_numbered.field-0.0 (g.O.Sink.taken c.args.out.now)
    (g.O.Sink.taken c.put_steps.new.out) (g.O.Sink.taken c.put_numbered.new.out) _ _ (lines_text from) _
    (plan_parts first cost (map do_line c.args.steps.now) from) c.from_residual-in_err-put_numbered.ensures.1
    c.in_ok-put_steps.ensures.told c.in_err-put_numbered.ensures.told

pub returns-clause-told : goal.returns-clause-told
returns-clause-told g c =
    let first = line (codes "plan") (decimal (length c.args.steps.now) ∷ []) in
    let cost = line (codes "cost") (decimal c.args.cost ∷ []) in
    prints_last c.put_origins.result (g.O.Sink.taken c.args.out.now) (g.O.Sink.taken c.put_numbered.new.out)
    (g.O.Sink.taken c.put_origins.new.out) _ _ _
    (plan_parts first cost (map do_line c.args.steps.now) (map (from_line c.args.version) c.args.from.now))
    (appends_then (g.O.Sink.taken c.args.out.now) (g.O.Sink.taken c.put_steps.new.out)
    (g.O.Sink.taken c.put_numbered.new.out) _ _ c.in_ok-put_steps.ensures.told c.in_ok-put_numbered.ensures.told) c.put_origins.ensures.told
