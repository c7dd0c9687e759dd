use Rattle.plan_rows.specs.Played.{IsWorkingSession}
use Rattle.plan_rows.proofs.story.tell_session.Given as goal

-- the session goes on
abbrev pub invariant-loop-part : goal.invariant-loop-part
invariant-loop-part l = IsWorkingSession l.task l.session.value
