use Rattle.session_core.specs.Ready.{AreReady}
use Rattle.plan_rows.specs.Played.{IsWorkingSession}
use Rattle.plan_rows.proofs.session.level.Given as goal

-- the asks that are left may be made
abbrev pub invariant-loop-events : goal.invariant-loop-events
invariant-loop-events l = record {
  stands : IsWorkingSession l.task l.session;
  ready : AreReady l.task l.session.entries l.rest;
}
