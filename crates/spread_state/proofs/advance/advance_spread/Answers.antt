use Rattle.plan_check.proofs.ReadableLemmas.{readable_action}
use Rattle.spread_state.proofs.advance.advance_spread.Goals as goal

pub changes_of-requires-clause-adds : goal.changes_of-requires-clause-adds
changes_of-requires-clause-adds g c =
    (readable_action c.args.task.now.domain c.requires.domain c.in_ok-action.action.now c.in_ok-action.ensures.fit).adds

pub changes_of-requires-clause-deletes : goal.changes_of-requires-clause-deletes
changes_of-requires-clause-deletes g c =
    (readable_action c.args.task.now.domain c.requires.domain c.in_ok-action.action.now
    c.in_ok-action.ensures.fit).deletes
