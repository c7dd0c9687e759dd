use Rattle.std.proofs.Common.{◌∙◌, ◌++◌, ◌∷◌, [], codes, map, sym}
use Rattle.std.specs.Fmt.{decimal}
use Rattle.gen_lines.specs.Request.{stream_name}
use Rattle.report_text.specs.Texts.{fields_text}
use Rattle.report_text.proofs.PrintsLemmas.{appends_then, prints_cut, prints_last, prints_later}
use Rattle.report_text.proofs.TextsLemmas.{line_more, pool_parts}
use Rattle.report_text.proofs.write_head.put_pool.Goals as goal

pub returns-in_err-put_begun-clause-told : goal.returns-in_err-put_begun-clause-told
returns-in_err-put_begun-clause-told g c =
    let pool = c.args.pool.now in
    let names = map (stream_name c.args.task.now) pool.streams in
    prints_cut c.from_residual.result c.in_err-put_begun.field-0.0 (g.O.Sink.taken c.args.out.now) (g.O.Sink.taken c.put_begun.new.out) _
    (fields_text names ++ 10 ∷ []) _ (line_more (codes "pool") (decimal pool.workers) names) c.from_residual.ensures.1
    c.in_err-put_begun.ensures.told

pub returns-in_err-put_streams-clause-told : goal.returns-in_err-put_streams-clause-told
returns-in_err-put_streams-clause-told g c =
    let pool = c.args.pool.now in
    prints_later c.from_residual-in_err-put_streams.result c.in_err-put_streams.field-0.0 (g.O.Sink.taken c.args.out.now)
    (g.O.Sink.taken c.put_begun.new.out) (g.O.Sink.taken c.put_streams.new.out) _ _ (10 ∷ []) _
    (pool_parts c.args.task.now pool
    ∙ (λ i. ((codes "pool" ++ 32 ∷ decimal pool.workers) ++ fields_text (map (stream_name c.args.task.now) (sym c.as_slice.ensures i)))
    ++ 10 ∷ []))
    c.from_residual-in_err-put_streams.ensures.1 c.in_ok-put_begun.ensures.told c.in_err-put_streams.ensures.told

pub returns-clause-told : goal.returns-clause-told
returns-clause-told g c =
    let pool = c.args.pool.now in
    prints_last c.put.result (g.O.Sink.taken c.args.out.now) (g.O.Sink.taken c.put_streams.new.out) (g.O.Sink.taken c.put.new.out) _ _ _
    (pool_parts c.args.task.now pool
    ∙ (λ i. ((codes "pool" ++ 32 ∷ decimal pool.workers) ++ fields_text (map (stream_name c.args.task.now) (sym c.as_slice.ensures i)))
    ++ 10 ∷ []))
    (appends_then (g.O.Sink.taken c.args.out.now) (g.O.Sink.taken c.put_begun.new.out)
    (g.O.Sink.taken c.put_streams.new.out) _ _ c.in_ok-put_begun.ensures.told c.in_ok-put_streams.ensures.told) c.put.ensures.told
