use Rattle.std.proofs.Common.{◌≡◌}
use Rattle.sexpr_text.specs.Trees.{trees}
use Rattle.form_reader.specs.Items.{predicates_faults}
use Rattle.form_reader.specs.Faults.{first}
use Rattle.form_reader.specs.Rows.{count}
use Rattle.form_reader.proofs.items.check_predicates.Given as goal

-- what is left adds its faults to those found
abbrev pub invariant-declarations : goal.invariant-declarations
invariant-declarations l =
    first l.fn.so_far (predicates_faults (trees l.items))
    ≡ first l.found (predicates_faults (trees l.left))

abbrev pub decreases-declarations : goal.decreases-declarations
decreases-declarations l = count (trees l.left)
