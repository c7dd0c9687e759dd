use Rattle.std.proofs.Common.{◌≡◌}
use Rattle.sexpr_text.specs.Trees.{trees}
use Rattle.form_reader.specs.declared.groups.Spot.TheVariants.{Start}
use Rattle.form_reader.specs.Faults.{first}
use Rattle.form_reader.specs.Rows.{count}
use Rattle.name_tables.specs.Variables.{types_names}
use Rattle.name_tables.proofs.variables.check_types.Given as goal

abbrev pub invariant-words : goal.invariant-words
invariant-words l =
    first l.fn.so_far (types_names l.sorts Start (trees l.items))
    ≡ first l.found (types_names l.sorts l.spot (trees l.left))

abbrev pub decreases-words : goal.decreases-words
decreases-words l = count (trees l.left)
