use Rattle.plan_check.proofs.ReadableLemmas.{readable_action}
use Rattle.relaxed_task.proofs.steps.add_rule.Goals as goal

pub put_needs-requires-clause-readable : goal.put_needs-requires-clause-readable
put_needs-requires-clause-readable g c =
    let domain = c.args.scene.now.task.now.domain in
    (readable_action domain c.requires.fit.domain c.args.action.now c.requires.action).condition

pub put_gives-requires-clause-adds : goal.put_gives-requires-clause-adds
put_gives-requires-clause-adds g c =
    let domain = c.args.scene.now.task.now.domain in
    (readable_action domain c.requires.fit.domain c.args.action.now c.requires.action).adds

pub put_gives-requires-clause-deletes : goal.put_gives-requires-clause-deletes
put_gives-requires-clause-deletes g c =
    let domain = c.args.scene.now.task.now.domain in
    (readable_action domain c.requires.fit.domain c.args.action.now c.requires.action).deletes
