use Rattle.std.proofs.Common.{◌≡◌, ◌++◌}
use Rattle.sexpr_text.specs.Trees.{trees}
use Rattle.form_reader.specs.declared.groups.Spot.TheVariants.{Start}
use Rattle.form_reader.specs.Rows.{count}
use Rattle.name_tables.specs.Variables.{named_words}
use Rattle.name_tables.proofs.variables.enter.Given as goal

abbrev pub invariant-words : goal.invariant-words
invariant-words l =
    l.fn.scope ++ named_words Start (trees l.items) ≡ l.scope ++ named_words l.spot (trees l.left)

abbrev pub decreases-words : goal.decreases-words
decreases-words l = count (trees l.left)
