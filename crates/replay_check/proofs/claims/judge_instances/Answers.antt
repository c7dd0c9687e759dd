use Rattle.replay_check.proofs.ClaimsLemmas.{few_due, more_due}
use Rattle.replay_check.proofs.claims.judge_instances.Goals as goal

pub returns : goal.returns
returns c = λ limit entries h.
    let task = c.args.bounds.now.task.now in (
      few_due c.args.bounds.now.version task entries c.args.knowledge.now h c.in-Some.dues.items
          (rw c.in-Some.is at c.in_ok-dues.ensures.some),
      λ none. none,
    )

pub returns-in_default : goal.returns-in_default
returns-in_default c = λ limit entries h.
    let task = c.args.bounds.now.task.now in
    (more_due c.args.bounds.now.version task entries c.args.knowledge.now h (rw c.in_default.is at c.in_ok-dues.ensures.none), λ none. none)
