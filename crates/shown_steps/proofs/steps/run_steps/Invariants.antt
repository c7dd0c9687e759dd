use Rattle.std.proofs.Common.{take}
use Rattle.shown_steps.specs.Runs.{IsRunOf}
use Rattle.shown_steps.proofs.steps.run_steps.Given as goal

-- the steps so far were taken
abbrev pub invariant-loop-place : goal.invariant-loop-place
invariant-loop-place g l = IsRunOf l.fn.task (g.L.Look.known l.fn.look) (take l.place l.fn.calls) l.run
