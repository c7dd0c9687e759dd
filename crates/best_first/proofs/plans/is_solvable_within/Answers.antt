use Rattle.std.proofs.Common.{◌≡◌, true, false}
use Rattle.best_first.proofs.plans.is_solvable_within.Goals as goal

pub returns-in-Nothing : goal.returns-in-Nothing
returns-in-Nothing g c = (rw c.in-Nothing.is at c.in_ok-search.ensures.nothing).0 tt

pub returns-in-Limit : goal.returns-in-Limit
returns-in-Limit g c = ((rw c.in-Limit.is at c.in_ok-search.ensures.limit) tt).reached

pub returns-then-branch : goal.returns-then-branch
returns-then-branch g c = c.in_ok-exceeds-in-Plan.ensures.0 c.if-branch.true

pub returns : goal.returns
returns g c =
    let plan = rw c.in-Plan.is at c.in_ok-search.ensures.plan in (
      (c.in-Plan.field-0.steps, c.in-Plan.field-1, plan.valid),
      λ many.
          let more : c.in_ok-exceeds-in-Plan.field-0 ≡ true = c.in_ok-exceeds-in-Plan.ensures.1 many in
          let few : c.in_ok-exceeds-in-Plan.field-0 ≡ false = c.if-branch.false in
          absurd (cc),
    )
