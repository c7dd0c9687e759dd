use Rattle.std.proofs.Common.{◌≡◌, ◌+◌, ◌*◌, drop, nat_le}
use Rattle.task_model.specs.Condition.{parts_of}
use Rattle.task_model.specs.Fit as fit
use Rattle.fit_check.proofs.conditions.+depth.Given as goal

abbrev pub decreases-is_shallow : goal.decreases-is_shallow
decreases-is_shallow l = 2 * l.most

abbrev pub decreases-are_shallow : goal.decreases-are_shallow
decreases-are_shallow l = 2 * l.most + 1

-- what is left to see decides
abbrev pub invariant-are_shallow-loop-part : goal.invariant-are_shallow-loop-part
invariant-are_shallow-loop-part l =
    nat_le (fit.depths_of (parts_of (drop l.part-index l.parts))) l.most ≡ nat_le (fit.depths_of (parts_of l.parts)) l.most
