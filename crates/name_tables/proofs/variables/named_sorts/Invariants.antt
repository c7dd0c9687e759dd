use Rattle.std.proofs.Common.{◌≡◌, ◌++◌}
use Rattle.sexpr_text.specs.Trees.{trees}
use Rattle.form_reader.specs.declared.groups.Spot.TheVariants.{Start}
use Rattle.form_reader.specs.Rows.{count}
use Rattle.name_tables.specs.Variables.{named_sorts}
use Rattle.name_tables.proofs.variables.named_sorts.Given as goal

abbrev pub invariant-words : goal.invariant-words
invariant-words l =
    named_sorts l.sorts Start 0 (trees l.items)
    ≡ l.list.items ++ named_sorts l.sorts l.spot l.waiting (trees l.left)

abbrev pub decreases-words : goal.decreases-words
decreases-words l = count (trees l.left)
