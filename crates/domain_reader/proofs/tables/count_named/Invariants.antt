use Rattle.std.proofs.Common.{◌≡◌, ◌+◌, length}
use Rattle.sexpr_text.specs.Trees.{trees}
use Rattle.form_reader.specs.declared.groups.Spot.TheVariants.{Start}
use Rattle.form_reader.specs.Rows.{count}
use Rattle.name_tables.specs.Variables.{named_words}
use Rattle.domain_reader.proofs.tables.count_named.Given as goal

abbrev pub invariant-words : goal.invariant-words
invariant-words l =
    length (named_words Start (trees l.items))
    ≡ l.count + length (named_words l.spot (trees l.left))

abbrev pub decreases-words : goal.decreases-words
decreases-words l = count (trees l.left)
