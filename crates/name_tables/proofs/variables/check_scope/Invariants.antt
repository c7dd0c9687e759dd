use Rattle.std.proofs.Common.{◌≡◌}
use Rattle.sexpr_text.specs.Trees.{trees}
use Rattle.form_reader.specs.declared.groups.Spot.TheVariants.{Start}
use Rattle.form_reader.specs.Faults.{first}
use Rattle.form_reader.specs.Rows.{count}
use Rattle.name_tables.specs.Variables.{scope_names}
use Rattle.name_tables.proofs.variables.check_scope.Given as goal

abbrev pub invariant-words : goal.invariant-words
invariant-words l =
    first l.fn.so_far (scope_names l.size Start (trees l.items))
    ≡ first l.found (scope_names l.inner l.spot (trees l.left))

abbrev pub decreases-words : goal.decreases-words
decreases-words l = count (trees l.left)
