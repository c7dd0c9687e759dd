use Rattle.std.proofs.Common.{◌∙◌, ◌++◌, append_assoc, sym}
use Rattle.report_text.specs.Places.{limits_line}
use Rattle.report_text.specs.Texts.{line_text, lines_text}
use Rattle.report_text.proofs.PrintsLemmas.{appends_then, prints_cut, prints_last, prints_later}
use Rattle.report_text.proofs.TextsLemmas.{first_line, head_parts, pool_lines}
use Rattle.report_text.proofs.write_head.put_head.Goals as goal

pub returns-in_err-put_first-clause-told : goal.returns-in_err-put_first-clause-told
returns-in_err-put_first-clause-told g c =
    let head = c.args.head.now in
    let pools = lines_text (pool_lines c.args.task.now head.pools) in
    prints_cut c.from_residual.result c.in_err-put_first.field-0.0 (g.O.Sink.taken c.args.out.now) (g.O.Sink.taken c.put_first.new.out) _
    (line_text (limits_line head.calls head.states head.depth) ++ pools) _
    (head_parts c.args.task.now head c.mode_bytes.result.now c.mode_bytes.ensures
    ∙ append_assoc (line_text (first_line head.version c.mode_bytes.result.now))
    (line_text (limits_line head.calls head.states head.depth)) pools)
    c.from_residual.ensures.1 c.in_err-put_first.ensures.told

pub returns-in_err-put_limits-clause-told : goal.returns-in_err-put_limits-clause-told
returns-in_err-put_limits-clause-told g c =
    let head = c.args.head.now in
    prints_later c.from_residual-in_err-put_limits.result c.in_err-put_limits.field-0.0 (g.O.Sink.taken c.args.out.now)
    (g.O.Sink.taken c.put_first.new.out) (g.O.Sink.taken c.put_limits.new.out) _ _
    (lines_text (pool_lines c.args.task.now head.pools)) _
    (head_parts c.args.task.now head c.mode_bytes.result.now c.mode_bytes.ensures)
    c.from_residual-in_err-put_limits.ensures.1 c.in_ok-put_first.ensures.told c.in_err-put_limits.ensures.told

pub returns-clause-told : goal.returns-clause-told
returns-clause-told g c =
    let head = c.args.head.now in
    prints_last c.put_pools.result (g.O.Sink.taken c.args.out.now) (g.O.Sink.taken c.put_limits.new.out)
    (g.O.Sink.taken c.put_pools.new.out) _ _ _
    (head_parts c.args.task.now head c.mode_bytes.result.now c.mode_bytes.ensures
    ∙ (λ i. (line_text (first_line head.version c.mode_bytes.result.now) ++ line_text (limits_line head.calls head.states head.depth))
    ++ lines_text (pool_lines c.args.task.now (sym c.as_slice.ensures i))))
    (appends_then (g.O.Sink.taken c.args.out.now) (g.O.Sink.taken c.put_first.new.out)
    (g.O.Sink.taken c.put_limits.new.out) _ _ c.in_ok-put_first.ensures.told c.in_ok-put_limits.ensures.told) c.put_pools.ensures.told
