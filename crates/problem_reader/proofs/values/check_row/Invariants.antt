use Rattle.std.proofs.Common.{◌≡◌}
use Rattle.sexpr_text.specs.Trees.{trees}
use Rattle.form_reader.specs.Faults.{first}
use Rattle.form_reader.specs.Rows.{count}
use Rattle.problem_reader.specs.Values.{row_names, row_put}
use Rattle.problem_reader.proofs.values.check_row.Given as goal

abbrev pub invariant-facts : goal.invariant-facts
invariant-facts l = record {
  faults : first l.fn.so_far (row_names l.fn.given (trees l.items)) ≡ first l.found (row_names l.given (trees l.left));
  given : row_put l.fn.given (trees l.items) ≡ row_put l.given (trees l.left);
}

abbrev pub decreases-facts : goal.decreases-facts
decreases-facts l = count (trees l.left)
