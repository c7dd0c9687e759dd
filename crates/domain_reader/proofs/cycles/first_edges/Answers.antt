use Rattle.std.proofs.Common.{[], ◌<◌, ◌∙◌, ap, length, arith}
use Rattle.name_tables.specs.Graphs.{ascending}
use Rattle.domain_reader.proofs.CyclesEdgeLemmas.{edges_more, first_ordered}
use Rattle.domain_reader.proofs.cycles.first_edges.Goals as goal

pub loop-place-preserved : goal.loop-place-preserved
loop-place-preserved c =
    let lt : c.loop-place.place < length c.args.sorts.now = omega (arith, c.loop-place-test.true, c.len-place-end.ensures) in
    edges_more c.args.sorts.now c.loop-place.edges c.push.new.self c.loop-place.place (ascending [] c.in_ok-first_edge.field-0.items)
    c.loop-place.invariant lt (ap (ascending []) c.in_ok-first_edge.ensures ∙ first_ordered c.loop-place.place) c.in_ok-push.ensures
