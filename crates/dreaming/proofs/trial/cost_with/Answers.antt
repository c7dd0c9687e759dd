use Rattle.std.proofs.Common.{subst}
use Rattle.plan_check.specs.Faults.{PlanFails}
use Rattle.task_model.specs.Known.{Known}
use Rattle.task_model.specs.Plans.{IsValid}
use Rattle.dreaming.proofs.FailsLemmas.{plan_fails_not}
use Rattle.dreaming.proofs.trial.cost_with.Goals as goal

pub look-requires : goal.look-requires
look-requires c = (c.args.trial.now.listing.task.now, c.requires.part.part)

pub returns-in-Ok-clause-some : goal.returns-in-Ok-clause-some
returns-in-Ok-clause-some c =
    subst (λ (k : Known). IsValid c.args.trial.now.listing.task.now k c.args.trial.now.plan.now.steps c.in-Ok.cost) c.look.ensures
    c.in-Ok.ensures.ok

pub returns-in_default-clause-none : goal.returns-in_default-clause-none
returns-in_default-clause-none c =
    let steps = c.args.trial.now.plan.now.steps in
    plan_fails_not c.args.trial.now.listing.task.now c.args.part.now.known steps c.in-Err.fault c.in_default.not-Memory
    (subst (λ (k : Known). PlanFails c.args.trial.now.listing.task.now k steps c.in-Err.fault) c.look.ensures c.in-Err.ensures.err)
