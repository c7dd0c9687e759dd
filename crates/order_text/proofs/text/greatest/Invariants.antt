use Rattle.std.proofs.Common.{◌≡◌, max, drop}
use Rattle.plan_deorder.specs.Orders.{greatest}
use Rattle.order_text.proofs.text.greatest.Given as goal

-- the greatest so far, and of what is left
abbrev pub invariant-loop-stage : goal.invariant-loop-stage
invariant-loop-stage l = max l.most (greatest (drop l.stage-index l.stages)) ≡ greatest l.stages
