use Rattle.std.proofs.Common.{◌≡◌, ◌+◌, ◌-◌, ◌<◌, length, reverse, subst, arith}
use Rattle.lemmas.proofs.ListTests.{get_some}
use Rattle.best_first.proofs.LinksLemmas.{follows_back}
use Rattle.best_first.specs.Links.{FollowsLink}
use Rattle.best_first.proofs.way.path.Goals as goal

pub loop-at-preserved : goal.loop-at-preserved
loop-at-preserved c =
    let links = c.args.links.now in
    let link = c.index-links-at.result in
    let n = c.loop-at.at - 1 in
    let inside : n < length links = omega (arith, c.loop-at.invariant.1) in
    let at = get_some links n link inside c.index-links-at.is in
    let from : c.loop-at.at ≡ n + 1 = omega arith in
    let before =
    subst (λ k. FollowsLink links k (reverse c.loop-at.steps.items) (length links) c.loop-at.cost) from c.loop-at.invariant.0 in
    let way = follows_back links n link c.in_ok-copy.field-0 c.loop-at.steps.items c.push.new.self.items
    (length links) c.loop-at.cost at c.in_ok-copy.ensures c.in_ok-push.ensures.items before in
    let earlier = c.requires.links.earlier n link at in
    let small = c.requires.links.small n link at in
    (way, omega arith, omega (arith, c.loop-at.invariant.2))
