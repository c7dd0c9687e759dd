use Rattle.std.proofs.Common.{◌≡◌, ◌+◌, ◌*◌, drop}
use Rattle.formula_eval.proofs.WeightLemmas.{weight, weights}
use Rattle.task_model.specs.Condition.{parts_of}
use Rattle.best_first.specs.Steady as steady
use Rattle.best_first.proofs.steady.+steady.Given as goal

abbrev pub decreases-is_steady : goal.decreases-is_steady
decreases-is_steady l = 2 * weight l.condition.now

abbrev pub decreases-are_steady : goal.decreases-are_steady
decreases-are_steady l = 2 * weights (parts_of l.parts.now) + 1

-- what is left to see decides
abbrev pub invariant-are_steady-loop-part : goal.invariant-are_steady-loop-part
invariant-are_steady-loop-part l =
    steady.are_steady l.domain l.marks l.under (parts_of (drop l.part-index l.parts))
    ≡ steady.are_steady l.domain l.marks l.under (parts_of l.parts)
