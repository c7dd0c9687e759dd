use Rattle.std.proofs.Common.{◌∙◌, ◌++◌, append_assoc, map, sym}
use Rattle.report_text.specs.Texts.{line_text, lines_text, pool_line}
use Rattle.report_text.specs.Places.{limits_line}
use Rattle.report_text.proofs.PrintsLemmas.{appends_then, prints_cut, prints_last, prints_later}
use Rattle.report_text.proofs.TextsLemmas.{first_line, shown_parts}
use Rattle.report_text.proofs.write_report.put_shown_head.Goals as goal

pub returns-in_err-put_first-clause-told : goal.returns-in_err-put_first-clause-told
returns-in_err-put_first-clause-told g c =
    let report = c.args.report.now in
    let limits = line_text (limits_line report.calls report.states report.depth) in
    let pools = lines_text (map pool_line report.pools) in
    prints_cut c.from_residual.result c.in_err-put_first.field-0.0 (g.O.Sink.taken c.args.out.now) (g.O.Sink.taken c.put_first.new.out) _
    (limits ++ pools) _
    (shown_parts c.args.version report.mode c.mode_bytes.result.now report.calls report.states report.depth report.pools
    c.mode_bytes.ensures
    ∙ append_assoc (line_text (first_line c.args.version c.mode_bytes.result.now)) limits pools)
    c.from_residual.ensures.1 c.in_err-put_first.ensures.told

pub returns-in_err-put_limits-clause-told : goal.returns-in_err-put_limits-clause-told
returns-in_err-put_limits-clause-told g c =
    let report = c.args.report.now in
    prints_later c.from_residual-in_err-put_limits.result c.in_err-put_limits.field-0.0 (g.O.Sink.taken c.args.out.now)
    (g.O.Sink.taken c.put_first.new.out) (g.O.Sink.taken c.put_limits.new.out) _ _ (lines_text (map pool_line report.pools)) _
    (shown_parts c.args.version report.mode c.mode_bytes.result.now report.calls report.states report.depth report.pools
    c.mode_bytes.ensures)
    c.from_residual-in_err-put_limits.ensures.1 c.in_ok-put_first.ensures.told c.in_err-put_limits.ensures.told

pub returns-clause-told : goal.returns-clause-told
returns-clause-told g c =
    let report = c.args.report.now in
    let limits = line_text (limits_line report.calls report.states report.depth) in
    prints_last c.put_pool_lines.result (g.O.Sink.taken c.args.out.now) (g.O.Sink.taken c.put_limits.new.out)
    (g.O.Sink.taken c.put_pool_lines.new.out) _ _ _
    (shown_parts c.args.version report.mode c.mode_bytes.result.now report.calls report.states report.depth report.pools
    c.mode_bytes.ensures
    ∙ (λ i. (line_text (first_line c.args.version c.mode_bytes.result.now) ++ limits)
    ++ lines_text (map pool_line (sym c.as_slice.ensures i))))
    (appends_then (g.O.Sink.taken c.args.out.now) (g.O.Sink.taken c.put_first.new.out)
    (g.O.Sink.taken c.put_limits.new.out) _ _ c.in_ok-put_first.ensures.told c.in_ok-put_limits.ensures.told)
    c.put_pool_lines.ensures.told
