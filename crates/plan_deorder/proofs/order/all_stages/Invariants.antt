use Rattle.std.proofs.Common.{◌≡◌}
use Rattle.plan_deorder.specs.Clashes.{stages_of}
use Rattle.plan_deorder.proofs.order.all_stages.Given as goal

-- the stages so far
abbrev pub invariant-loop-place : goal.invariant-loop-place
invariant-loop-place l = l.stages.items ≡ stages_of l.touched l.place
