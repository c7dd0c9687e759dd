use Rattle.std.proofs.Common.{refl, subst}
use Rattle.optimal_check.proofs.VerdictLemmas.{dear_found, least_found, limit_found, never_none}
use Rattle.optimal_check.specs.Least.{IsLeastFound}
use Rattle.optimal_check.proofs.replay.judge_cost.Goals as goal

pub returns-then-least-cost : goal.returns-then-least-cost
returns-then-least-cost c =
    let task = c.args.task.now in
    let right = c.args.right.now in
    let found = subst (IsLeastFound task right.facts.known c.args.limit) c.in-Plan.is c.in_ok-least.ensures in (
      c.cost_line-line.ensures,
      refl,
      dear_found c.args.limit task right c.args.steps.now c.args.cost c.requires.shown c.in-Plan.field-0
          c.in-Plan.least found
          c.if-least-cost.true,
    )

pub returns-in-Plan : goal.returns-in-Plan
returns-in-Plan c =
    let task = c.args.task.now in
    let right = c.args.right.now in
    let found = subst (IsLeastFound task right.facts.known c.args.limit) c.in-Plan.is c.in_ok-least.ensures in
    least_found c.args.limit task right c.args.steps.now c.args.cost c.requires.shown c.in-Plan.field-0
    c.in-Plan.least found
    c.if-least-cost.false

pub unreachable-requires : goal.unreachable-requires
unreachable-requires c =
    let task = c.args.task.now in
    let right = c.args.right.now in
    never_none c.args.limit task right c.args.steps.now c.args.cost c.requires.shown
    (subst (IsLeastFound task right.facts.known c.args.limit) c.in-Nothing.is c.in_ok-least.ensures)

pub returns : goal.returns
returns c =
    let task = c.args.task.now in
    let right = c.args.right.now in
    limit_found c.args.limit task right c.args.steps.now c.args.cost c.requires.shown
    (subst (IsLeastFound task right.facts.known c.args.limit) c.in-Limit.is c.in_ok-least.ensures)
