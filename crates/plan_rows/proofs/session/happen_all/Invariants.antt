use Rattle.plan_rows.specs.Played.{IsRoundKept}
use Rattle.plan_rows.proofs.session.happen_all.Given as goal

-- nothing but slots has changed
abbrev pub invariant-loop-event : goal.invariant-loop-event
invariant-loop-event l = IsRoundKept l.initial.session l.session
