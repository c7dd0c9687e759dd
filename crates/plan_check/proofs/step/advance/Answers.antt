use Rattle.plan_check.proofs.ReadableLemmas.{readable_action}
use Rattle.plan_check.proofs.step.advance.Goals as goal

pub change-requires-clause-adds : goal.change-requires-clause-adds
change-requires-clause-adds g c =
    (readable_action c.args.task.now.domain c.requires.domain c.in_ok-action.action.now c.in_ok-action.ensures.fit).adds

pub change-requires-clause-deletes : goal.change-requires-clause-deletes
change-requires-clause-deletes g c =
    (readable_action c.args.task.now.domain c.requires.domain c.in_ok-action.action.now c.in_ok-action.ensures.fit).deletes
