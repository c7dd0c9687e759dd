use Rattle.std.proofs.Common.{◌+◌, ◌*◌}
use Rattle.task_model.specs.Condition.{parts_of, size_of, sizes_of}
use Rattle.validate_app.proofs.local.+local.Given as goal

abbrev pub decreases-is_plain : goal.decreases-is_plain
decreases-is_plain l = 2 * size_of l.formula.now

abbrev pub decreases-are_plain : goal.decreases-are_plain
decreases-are_plain l = 2 * sizes_of (parts_of l.formulas.now) + 1
