use Rattle.std.proofs.Common.{◌≡◌, length}
use Rattle.plan_reader.specs.Claims.{claimed_cost, first_claim}
use Rattle.plan_reader.proofs.PlansLemmas.{lines_left}
use Rattle.plan_reader.proofs.claim.claimed_cost.Given as goal

abbrev pub invariant-lines : goal.invariant-lines
invariant-lines l = claimed_cost l.fn.text ≡ first_claim (lines_left l.left)

abbrev pub decreases-lines : goal.decreases-lines
decreases-lines l = length (lines_left l.left)
