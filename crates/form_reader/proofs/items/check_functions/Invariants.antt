use Rattle.std.proofs.Common.{◌≡◌}
use Rattle.sexpr_text.specs.Trees.{trees}
use Rattle.form_reader.specs.declared.groups.Spot.TheVariants.{Start}
use Rattle.form_reader.specs.Items.{functions_faults}
use Rattle.form_reader.specs.Faults.{first}
use Rattle.form_reader.specs.Rows.{count}
use Rattle.form_reader.proofs.items.check_functions.Given as goal

-- what is left adds its faults to those found
abbrev pub invariant-declarations : goal.invariant-declarations
invariant-declarations l =
    first l.fn.so_far (functions_faults l.place Start (trees l.items)) ≡ first l.found (functions_faults l.place l.spot (trees l.left))

abbrev pub decreases-declarations : goal.decreases-declarations
decreases-declarations l = count (trees l.left)
