use Rattle.stream_reader.proofs.CyclesNextLemmas.{next_more}
use Rattle.stream_reader.proofs.cycles.next_of.Goals as goal

pub loop-place-preserved : goal.loop-place-preserved
loop-place-preserved c =
    next_more c.args.domain.now c.args.first.now c.args.all.now c.loop-place.place c.index-all-place.result c.loop-place.numbers.items
    c.add_next.new.numbers.items c.loop-place-test.true c.index-all-place.is c.in_ok-add_next.ensures c.loop-place.invariant
