use Rattle.fact_join.proofs.ListedLemmas.{listed_fact}
use Rattle.fact_join.proofs.listed.Listed.is_found.Goals as goal

pub returns-then-sort-fact : goal.returns-then-sort-fact
returns-then-sort-fact g c found =
    let hand = c.args.self.now in
    let arm = c.in-Some-Sort-len1 in
    listed_fact (g.L.Look.known hand.look.now) arm.sort c.object-item.result c.args.fact.now c.as_slice.result.now hand.objects.items
    arm.len_at_least arm.len_below c.object-item.is c.as_slice.ensures arm.is-1 c.if-sort-fact.true (hand.right arm.sort arm.is-0)
    (c.lists.ensures found)
