use Rattle.std.proofs.Common.{◌≡◌}
use Rattle.sexpr_text.specs.Trees.{trees}
use Rattle.form_reader.specs.Rows.{count}
use Rattle.problem_reader.specs.Problems.{init_of}
use Rattle.problem_reader.proofs.problem.init_of.Given as goal

abbrev pub invariant-items : goal.invariant-items
invariant-items l = init_of (trees l.items) ≡ init_of (trees l.left)

abbrev pub decreases-items : goal.decreases-items
decreases-items l = count (trees l.left)
