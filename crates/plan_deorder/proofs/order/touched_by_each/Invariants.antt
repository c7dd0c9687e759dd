use Rattle.std.proofs.Common.{take}
use Rattle.plan_deorder.specs.Clashes.{AreTouched}
use Rattle.plan_deorder.proofs.order.touched_by_each.Given as goal

-- what the steps that were passed touch
abbrev pub invariant-loop-step : goal.invariant-loop-step
invariant-loop-step l = AreTouched l.task (take l.step-index l.steps) l.touched.items
