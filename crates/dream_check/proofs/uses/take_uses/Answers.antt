use Rattle.std.proofs.Common.{arith, take, take_all, subst}
use Rattle.dream_check.proofs.ListedLemmas.{stops_here, taken_first, taken_next}
use Rattle.dream_check.specs.Listed.{AreUsed, MayBeNext}
use Rattle.dream_check.proofs.uses.take_uses.Goals as goal

pub loop-place-init : goal.loop-place-init
loop-place-init c =
    let l = c.args.listing.now in
    let h = c.requires.part in taken_first l.task.now l.supposed.now c.args.part.now h.part h.base h.list h.places_are

pub loop-place-preserved : goal.loop-place-preserved
loop-place-preserved c =
    let l = c.args.listing.now in
    let uses = c.args.uses.now in
    let place = c.loop-place.place in
    let so_far = c.loop-place.invariant in
    taken_next l.task.now l.supposed.now uses place c.index-uses-place.result c.loop-place.part c.loop-place.next c.loop-place-test.true
    c.index-uses-place.is so_far c.take.new.self c.in-Some.entry
    (subst (MayBeNext l.task.now l.supposed.now (take place uses) c.loop-place.part.places c.index-uses-place.result) c.in-Some.is
    (c.in_ok-entry.ensures (take place uses) so_far.used))
    c.in_ok-take.ensures.part c.in_ok-take.ensures.base c.in_ok-take.ensures.list c.in_ok-take.ensures.places

pub returns-in_default : goal.returns-in_default
returns-in_default c =
    let l = c.args.listing.now in
    let uses = c.args.uses.now in
    let place = c.loop-place.place in
    let so_far = c.loop-place.invariant in
    stops_here l.task.now l.supposed.now uses place c.index-uses-place.result c.loop-place.part c.loop-place.next c.loop-place-test.true
    c.index-uses-place.is so_far
    (subst (MayBeNext l.task.now l.supposed.now (take place uses) c.loop-place.part.places c.index-uses-place.result) c.in_default.is
    (c.in_ok-entry.ensures (take place uses) so_far.used))

pub returns : goal.returns
returns c =
    let l = c.args.listing.now in
    let all = take_all c.loop-place.place c.args.uses.now (omega (arith, c.loop-place-test.false)) in
    let taken = c.loop-place.invariant in
    (subst (λ us. AreUsed l.task.now l.supposed.now us c.loop-place.part.places) all taken.used, taken.part_at)
