use Rattle.std.proofs.Common.{length, subst}
use Rattle.best_first.specs.Links.{FollowsLink}
use Rattle.optimal_search.proofs.PlanLemmas.{found_least}
use Rattle.optimal_search.specs.Answer.{ComesToLeast}
use Rattle.optimal_search.proofs.astar.cheapest.Goals as goal

pub returns-in_ok-plan-in-Goal-clause-plan : goal.returns-in_ok-plan-in-Goal-clause-plan
returns-in_ok-plan-in-Goal-clause-plan g c =
    let task = c.args.task.now in
    let known = g.L.Look.known c.args.look.now in
    let links = c.in-Goal.links.items in
    let plan = c.in_ok-plan-in-Goal.plan.steps in
    let cost = c.in_ok-plan-in-Goal.cost in
    let met = subst (ComesToLeast task known c.args.limit) c.in-Goal.is c.in_ok-links.ensures in
    let way = subst (λ ls. FollowsLink ls 0 plan (length ls) cost) c.as_slice.ensures.value c.in_ok-plan-in-Goal.ensures in
    (found_least task known c.args.limit links plan cost met way).0

pub returns-in_ok-plan-in-Goal-clause-least : goal.returns-in_ok-plan-in-Goal-clause-least
returns-in_ok-plan-in-Goal-clause-least g c =
    let task = c.args.task.now in
    let known = g.L.Look.known c.args.look.now in
    let links = c.in-Goal.links.items in
    let plan = c.in_ok-plan-in-Goal.plan.steps in
    let cost = c.in_ok-plan-in-Goal.cost in
    let met = subst (ComesToLeast task known c.args.limit) c.in-Goal.is c.in_ok-links.ensures in
    let way = subst (λ ls. FollowsLink ls 0 plan (length ls) cost) c.as_slice.ensures.value c.in_ok-plan-in-Goal.ensures in
    (found_least task known c.args.limit links plan cost met way).1

pub returns-in_ok-plan-in-Goal-clause-nothing : goal.returns-in_ok-plan-in-Goal-clause-nothing
returns-in_ok-plan-in-Goal-clause-nothing g c =
    let task = c.args.task.now in
    let known = g.L.Look.known c.args.look.now in
    let links = c.in-Goal.links.items in
    let plan = c.in_ok-plan-in-Goal.plan.steps in
    let cost = c.in_ok-plan-in-Goal.cost in
    let met = subst (ComesToLeast task known c.args.limit) c.in-Goal.is c.in_ok-links.ensures in
    let way = subst (λ ls. FollowsLink ls 0 plan (length ls) cost) c.as_slice.ensures.value c.in_ok-plan-in-Goal.ensures in
    let found = (found_least task known c.args.limit links plan cost met way).0 in
    (λ h. absurd h, λ h. absurd (h.0 (plan, cost, found.valid)))
