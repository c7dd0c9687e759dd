use Rattle.std.proofs.Common.{◌+◌, ◌*◌}
use Rattle.task_model.specs.Condition.{parts_of}
use Rattle.formula_eval.proofs.WeightLemmas.{weight, weights}
use Rattle.relaxed_task.proofs.conditions.+literal.Given as goal

abbrev pub decreases-literal : goal.decreases-literal
decreases-literal g l = 2 * weight l.condition.now

abbrev pub decreases-parts_literal : goal.decreases-parts_literal
decreases-parts_literal g l = 2 * weights (parts_of l.parts.now) + 1

abbrev pub decreases-tuples_literal : goal.decreases-tuples_literal
decreases-tuples_literal g l = 2 * weight l.body.now + 1
