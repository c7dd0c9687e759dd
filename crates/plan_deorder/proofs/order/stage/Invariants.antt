use Rattle.std.proofs.Common.{◌≡◌}
use Rattle.plan_deorder.proofs.StagingLemmas.{greatest_of}
use Rattle.plan_deorder.proofs.order.stage.Given as goal

-- the greatest of the stages so far
abbrev pub invariant-loop-earlier : goal.invariant-loop-earlier
invariant-loop-earlier l = l.greatest ≡ greatest_of l.touched l.stages l.place l.earlier
