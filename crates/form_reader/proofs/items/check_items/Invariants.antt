use Rattle.std.proofs.Common.{◌≡◌}
use Rattle.sexpr_text.specs.Trees.{trees}
use Rattle.form_reader.specs.Items.{items_faults}
use Rattle.form_reader.specs.Faults.{first}
use Rattle.form_reader.specs.Rows.{count}
use Rattle.form_reader.proofs.items.check_items.Given as goal

-- what is left adds its faults to those found
abbrev pub invariant-items : goal.invariant-items
invariant-items l =
    first l.fn.so_far (items_faults l.text (trees l.items))
    ≡ first l.found (items_faults l.text (trees l.left))

abbrev pub decreases-items : goal.decreases-items
decreases-items l = count (trees l.left)
