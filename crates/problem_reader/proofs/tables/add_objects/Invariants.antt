use Rattle.std.proofs.Common.{◌≡◌}
use Rattle.sexpr_text.specs.Trees.{trees}
use Rattle.form_reader.specs.Rows.{count}
use Rattle.problem_reader.specs.Tables.{object_names_in}
use Rattle.problem_reader.proofs.tables.add_objects.Given as goal

abbrev pub invariant-items : goal.invariant-items
invariant-items l = object_names_in l.fn.names (trees l.items) ≡ object_names_in l.names (trees l.left)

abbrev pub decreases-items : goal.decreases-items
decreases-items l = count (trees l.left)
