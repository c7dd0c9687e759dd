use Rattle.std.proofs.Common.{◌≡◌, false, true, rules, tests}
use Rattle.shown_steps.proofs.PlansLemmas.{plan_can}
use Rattle.dream_check.specs.Listed.{known_at}
use Rattle.dream_check.proofs.dream.judge_plan.Goals as goal

pub returns-then-not-branch : goal.returns-then-not-branch
returns-then-not-branch c =
    let l = c.args.listing.now in
    let no : c.in_ok-are_needed.field-0 ≡ false = search (rules, tests) in (
      plan_can l.task.now (known_at l.task.now l.supposed.now c.args.places.now) c.args.steps.now c.requires.plan.0 c.requires.plan.1,
      λ thin.
          let yes : c.in_ok-are_needed.field-0 ≡ true = c.in_ok-are_needed.ensures.1 thin.1 in
          absurd (cc),
    )

pub returns : goal.returns
returns c =
    let yes : c.in_ok-are_needed.field-0 ≡ true = search (rules, tests) in
    (c.in_ok-entries.ensures, (c.requires.plan, c.in_ok-are_needed.ensures.0 yes))
