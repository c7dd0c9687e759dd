use Rattle.std.proofs.Common.{◌≡◌}
use Rattle.sexpr_text.specs.Trees.{trees}
use Rattle.form_reader.specs.Rows.{count}
use Rattle.problem_reader.specs.Problems.{has_metric}
use Rattle.problem_reader.proofs.problem.has_metric.Given as goal

abbrev pub invariant-items : goal.invariant-items
invariant-items l = has_metric (trees l.items) ≡ has_metric (trees l.left)

abbrev pub decreases-items : goal.decreases-items
decreases-items l = count (trees l.left)
