use Rattle.std.proofs.Common.{◌<◌, ◌≤◌, ◌∙◌, subst, length, arith}
use Rattle.domain_reader.specs.Cycles.{IsAbove}
use Rattle.domain_reader.proofs.CyclesEdgeLemmas.{sorts_all, sorts_more}
use Rattle.domain_reader.proofs.cycles.sorts_of.Goals as goal

pub loop-place-preserved : goal.loop-place-preserved
loop-place-preserved c =
    let lt : c.loop-place.place < length c.args.sorts.now = omega (arith, c.loop-place-test.true, c.len-place-end.ensures) in
    sorts_more c.args.edges.now c.args.sorts.now c.loop-place.list.items c.push.new.self.items c.loop-place.place c.in_ok-name.name
    c.in_ok-above.above c.loop-place.invariant lt
    (c.in_ok-name.ensures.name ∙ c.name_at.ensures)
    (subst (λ k. IsAbove c.args.edges.now k c.in_ok-above.above) c.in_ok-number.ensures c.in_ok-above.ensures)
    c.in_ok-push.ensures.items

pub returns : goal.returns
returns c =
    let le : length c.args.sorts.now ≤ c.loop-place.place = omega (arith, c.loop-place-test.false, c.len-place-end.ensures) in
    sorts_all c.args.edges.now c.args.sorts.now c.loop-place.list.items c.loop-place.place c.loop-place.invariant le
