use Rattle.std.proofs.Common.{arith}
use Rattle.io_world.specs.Faults.{last_count}
use Rattle.gen_host.proofs.MembersLemmas.{found_above, added_more, sum_bounded}
use Rattle.gen_host.proofs.box_host.BoxHostHost.faults.Goals as goal

pub returns-then-count-ge-LAST-clause-count : goal.returns-then-count-ge-LAST-clause-count
returns-then-count-ge-LAST-clause-count g c =
    found_above 17 last_count (λ b. (goal.Generator-dyn g (b.vtable, b.value)).faults b.value) c.deref-member-items.result.now
    c.args.self.now.members.items c.loop-member.member-index c.faults-count.result c.member-item.result
    c.deref-member-items.ensures.value c.args.self.now.count c.loop-member-test.true c.member-item.is c.faults-count.ensures.count
    c.if-count-ge-LAST.true

pub overflow_add-sum : goal.overflow_add-sum
overflow_add-sum g c =
    let most = sum_bounded 17 last_count (λ b. (goal.Generator-dyn g (b.vtable, b.value)).faults b.value) c.args.self.now.members.items
    c.loop-member.member-index c.loop-member.sum c.args.self.now.count c.loop-member.invariant.below c.loop-member.invariant.added in
    omega (arith, most, c.faults-count.ensures.bound)

pub loop-member-preserved : goal.loop-member-preserved
loop-member-preserved g c =
    let more = added_more last_count (λ b. (goal.Generator-dyn g (b.vtable, b.value)).faults b.value) c.deref-member-items.result.now
    c.args.self.now.members.items c.loop-member.member-index c.faults-count.result c.loop-member.sum c.member-item.result
    c.deref-member-items.ensures.value c.loop-member-test.true c.member-item.is c.faults-count.ensures.count c.if-count-ge-LAST.false
    c.loop-member.invariant.below c.loop-member.invariant.added in
    record { below = more.0; added = more.1 }

pub returns-clause-bound : goal.returns-clause-bound
returns-clause-bound g c =
    sum_bounded 17 last_count (λ b. (goal.Generator-dyn g (b.vtable, b.value)).faults b.value) c.args.self.now.members.items
    c.loop-member.member-index c.loop-member.sum c.args.self.now.count c.loop-member.invariant.below c.loop-member.invariant.added
