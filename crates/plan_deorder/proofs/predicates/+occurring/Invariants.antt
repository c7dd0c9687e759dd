use Rattle.std.proofs.Common.{◌≡◌, ◌+◌, ◌*◌, ◌++◌, drop}
use Rattle.formula_eval.proofs.WeightLemmas.{weight, weights}
use Rattle.task_model.specs.Condition.{parts_of}
use Rattle.plan_deorder.specs.Occurring.{all_occurring_in}
use Rattle.plan_deorder.proofs.predicates.+occurring.Given as goal

abbrev pub decreases-put_occurring : goal.decreases-put_occurring
decreases-put_occurring l = 2 * weight l.condition.now

abbrev pub decreases-put_all_occurring : goal.decreases-put_all_occurring
decreases-put_all_occurring l = 2 * weights (parts_of l.parts.now) + 1

-- with what is left to come there are all
abbrev pub invariant-put_all_occurring-loop-part : goal.invariant-put_all_occurring-loop-part
invariant-put_all_occurring-loop-part l =
    l.preds.items ++ all_occurring_in l.outside (parts_of (drop l.part-index l.parts))
    ≡ l.initial.preds.items ++ all_occurring_in l.outside (parts_of l.parts)
