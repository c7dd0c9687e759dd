use Rattle.std.proofs.Common.{◌≡◌}
use Rattle.sexpr_text.specs.Trees.{trees}
use Rattle.form_reader.specs.Faults.{first}
use Rattle.form_reader.specs.Rows.{count}
use Rattle.problem_reader.specs.Values.{nothing_given, values_names}
use Rattle.problem_reader.proofs.values.check_values.Given as goal

abbrev pub invariant-items : goal.invariant-items
invariant-items l =
    first l.fn.so_far (values_names nothing_given (trees l.items))
    ≡ first l.found (values_names l.given (trees l.left))

abbrev pub decreases-items : goal.decreases-items
decreases-items l = count (trees l.left)
