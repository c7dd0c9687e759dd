use Rattle.std.proofs.Common.{◌≡◌}
use Rattle.sexpr_text.specs.Trees.{trees}
use Rattle.form_reader.specs.Rows.{count}
use Rattle.problem_reader.specs.Problems.{objects_typed}
use Rattle.problem_reader.proofs.objects.declare_objects.Given as goal

abbrev pub invariant-items : goal.invariant-items
invariant-items l =
    objects_typed l.sorts l.fn.names (trees l.items) ≡ objects_typed l.sorts l.names (trees l.left)

abbrev pub decreases-items : goal.decreases-items
decreases-items l = count (trees l.left)
