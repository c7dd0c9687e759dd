use Rattle.std.proofs.Common.{◌≡◌}
use Rattle.sexpr_text.specs.Trees.{trees}
use Rattle.form_reader.specs.declared.groups.Spot.TheVariants.{Start}
use Rattle.form_reader.specs.Rows.{count}
use Rattle.name_tables.specs.Variables.{seen_after}
use Rattle.domain_reader.proofs.tables.add_named.Given as goal

abbrev pub invariant-words : goal.invariant-words
invariant-words l =
    seen_after l.fn.names Start (trees l.items) ≡ seen_after l.names l.spot (trees l.left)

abbrev pub decreases-words : goal.decreases-words
decreases-words l = count (trees l.left)
