use Rattle.std.proofs.Common.{◌≡◌}
use Rattle.sexpr_text.specs.Trees.{trees}
use Rattle.form_reader.specs.declared.groups.Spot.TheVariants.{Start}
use Rattle.form_reader.specs.Rows.{count, groups_faults}
use Rattle.form_reader.proofs.groups.check_groups.Given as goal

-- the words so far may stand
abbrev pub invariant-words : goal.invariant-words
invariant-words l =
    groups_faults l.sort l.place Start (trees l.items)
    ≡ groups_faults l.sort l.place l.spot (trees l.left)

abbrev pub decreases-words : goal.decreases-words
decreases-words l = count (trees l.left)
