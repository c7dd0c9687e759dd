use Rattle.std.proofs.Common.{◌+◌, arith, drop, map, subst, sym}
use Rattle.std.specs.Io.KnownBytes.{Appends}
use Rattle.lemmas.proofs.Members.{flat_map_map_next}
use Rattle.report_text.specs.Texts.{line_text, lines_text, pool_line}
use Rattle.report_text.proofs.PrintsLemmas.{appends_then, prints_later}
use Rattle.report_text.proofs.TextsLemmas.{lines_around}
use Rattle.report_text.proofs.write_report.put_pool_lines.Goals as goal

pub returns-in_err-put_pool_line-clause-told : goal.returns-in_err-put_pool_line-clause-told
returns-in_err-put_pool_line-clause-told g c =
    prints_later c.from_residual.result c.in_err-put_pool_line.field-0.0 (g.O.Sink.taken c.args.out.now) (g.O.Sink.taken c.loop-pool.out)
    (g.O.Sink.taken c.put_pool_line.new.out) _ _ (lines_text (map pool_line (drop (c.loop-pool.pool-index + 1) c.args.pools.now))) _
    (lines_around line_text pool_line c.args.pools.now c.loop-pool.pool-index c.pool-item.result c.loop-pool-test.true c.pool-item.is)
    c.from_residual.ensures.1 c.loop-pool.invariant.told c.in_err-put_pool_line.ensures.told

pub loop-pool-preserved : goal.loop-pool-preserved
loop-pool-preserved g c = record {
  told = subst (Appends (g.O.Sink.taken c.args.out.now) (g.O.Sink.taken c.put_pool_line.new.out))
      (sym (flat_map_map_next line_text pool_line c.args.pools.now c.loop-pool.pool-index c.pool-item.result
      c.loop-pool-test.true c.pool-item.is)) (appends_then (g.O.Sink.taken c.args.out.now) (g.O.Sink.taken c.loop-pool.out)
      (g.O.Sink.taken c.put_pool_line.new.out) _ _ c.loop-pool.invariant.told c.in_ok-put_pool_line.ensures.told);
  sink = omega (arith, c.loop-pool.invariant.sink, c.in_ok-put_pool_line.ensures.cause.later);
}
