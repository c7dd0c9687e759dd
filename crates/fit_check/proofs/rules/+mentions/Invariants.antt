use Rattle.std.proofs.Common.{◌≡◌, ◌+◌, ◌*◌, drop}
use Rattle.task_model.specs.Condition.{parts_of, size_of, sizes_of}
use Rattle.task_model.specs.Fit as fit
use Rattle.fit_check.proofs.rules.+mentions.Given as goal

abbrev pub decreases-mentions : goal.decreases-mentions
decreases-mentions l = 2 * size_of l.formula.now

abbrev pub decreases-any_mentions : goal.decreases-any_mentions
decreases-any_mentions l = 2 * sizes_of (parts_of l.parts.now) + 1

-- what is left to see decides
abbrev pub invariant-any_mentions-loop-part : goal.invariant-any_mentions-loop-part
invariant-any_mentions-loop-part l =
    fit.any_mentions l.pred (parts_of (drop l.part-index l.parts)) ≡ fit.any_mentions l.pred (parts_of l.parts)
