use Rattle.std.proofs.Common.{◌≡◌}
use Rattle.sexpr_text.specs.Trees.{trees}
use Rattle.form_reader.specs.Rows.{count, row_faults}
use Rattle.form_reader.proofs.groups.check_row.Given as goal

-- the words so far may stand
abbrev pub invariant-words : goal.invariant-words
invariant-words l = row_faults l.sort (trees l.items) ≡ row_faults l.sort (trees l.left)

abbrev pub decreases-words : goal.decreases-words
decreases-words l = count (trees l.left)
