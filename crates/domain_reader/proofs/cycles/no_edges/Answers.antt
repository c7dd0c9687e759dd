use Rattle.std.proofs.Common.{[], ◌<◌, ap, length, arith}
use Rattle.name_tables.specs.Graphs.{ascending}
use Rattle.domain_reader.proofs.CyclesEdgeLemmas.{none_more}
use Rattle.domain_reader.proofs.cycles.no_edges.Goals as goal

pub loop-place-preserved : goal.loop-place-preserved
loop-place-preserved c =
    let lt : c.loop-place._place < length c.args.predicates.now.names = omega (arith, c.loop-place-test.true, c.len-place-end.ensures) in
    none_more c.args.predicates.now.names c.loop-place.edges c.push.new.self c.loop-place._place (ascending [] c.new.result.items)
    c.loop-place.invariant lt (ap (ascending []) c.new.ensures.items) c.in_ok-push.ensures
