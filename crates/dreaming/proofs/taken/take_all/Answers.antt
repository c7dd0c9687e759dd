use Rattle.dreaming.proofs.PartLemmas.{part_more}
use Rattle.dreaming.proofs.taken.take_all.Goals as goal

pub loop-place-init : goal.loop-place-init
loop-place-init c = c.requires.part

pub loop-place-preserved : goal.loop-place-preserved
loop-place-preserved c =
    part_more c.args.listing.now.task.now c.args.listing.now.supposed.now c.args.places.now c.loop-place.place-index
    c.loop-place.part c.take.new.self c.loop-place-test.true c.loop-place.invariant c.in_ok-take.ensures.part
    c.in_ok-take.ensures.base c.in_ok-take.ensures.list c.in_ok-take.ensures.places
