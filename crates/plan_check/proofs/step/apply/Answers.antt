use Rattle.plan_check.proofs.ReadableLemmas.{readable_action}
use Rattle.plan_check.proofs.step.apply.Goals as goal

pub after-requires-clause-adds : goal.after-requires-clause-adds
after-requires-clause-adds g c =
    (readable_action c.args.task.now.domain c.requires.domain c.in_ok-action.action.now c.in_ok-action.ensures.fit).adds

pub after-requires-clause-deletes : goal.after-requires-clause-deletes
after-requires-clause-deletes g c =
    (readable_action c.args.task.now.domain c.requires.domain c.in_ok-action.action.now c.in_ok-action.ensures.fit).deletes
