use Rattle.std.proofs.Common.{length, true, subst}
use Rattle.best_first.proofs.LinksLemmas.{found_plan}
use Rattle.best_first.specs.Explored.{IsMet}
use Rattle.best_first.specs.Links.{FollowsLink}
use Rattle.best_first.specs.Outcome.{ComesTo}
use Rattle.best_first.proofs.plans.search.Goals as goal

pub returns-in_ok-plan-in-Goal-clause-plan : goal.returns-in_ok-plan-in-Goal-clause-plan
returns-in_ok-plan-in-Goal-clause-plan g c =
    let task = c.args.task.now in
    let known = g.L.Look.known c.args.look.now in
    let tree = c.in-Goal.tree in
    let plan = c.in_ok-plan-in-Goal.plan.steps in
    let cost = c.in_ok-plan-in-Goal.cost in
    let met : IsMet task known true c.args.limit tree.store tree.links.items =
    subst (ComesTo task known true c.args.limit) c.in-Goal.is c.in_ok-tree.ensures in
    let way = subst (λ ls. FollowsLink ls 0 plan (length ls) cost) c.as_slice.ensures.value c.in_ok-plan-in-Goal.ensures in
    found_plan task known true c.args.limit tree.store tree.links.items plan cost met way

pub returns-in_ok-plan-in-Goal-clause-nothing : goal.returns-in_ok-plan-in-Goal-clause-nothing
returns-in_ok-plan-in-Goal-clause-nothing g c =
    let task = c.args.task.now in
    let known = g.L.Look.known c.args.look.now in
    let tree = c.in-Goal.tree in
    let plan = c.in_ok-plan-in-Goal.plan.steps in
    let cost = c.in_ok-plan-in-Goal.cost in
    let met : IsMet task known true c.args.limit tree.store tree.links.items =
    subst (ComesTo task known true c.args.limit) c.in-Goal.is c.in_ok-tree.ensures in
    let way = subst (λ ls. FollowsLink ls 0 plan (length ls) cost) c.as_slice.ensures.value c.in_ok-plan-in-Goal.ensures in
    let found = found_plan task known true c.args.limit tree.store tree.links.items plan cost met way in
    (λ h. absurd h, λ h. absurd (h.0 (plan, cost, found.valid)))
