use Rattle.std.proofs.Common.{◌≡◌}
use Rattle.sexpr_text.specs.Trees.{trees}
use Rattle.form_reader.specs.declared.groups.Spot.TheVariants.{Start}
use Rattle.form_reader.specs.Rows.{count}
use Rattle.name_tables.specs.Declarations.{declare_each}
use Rattle.name_tables.specs.Variables.{named_sorts, named_words}
use Rattle.name_tables.proofs.declarations.declare_groups.Given as goal

abbrev pub invariant-words : goal.invariant-words
invariant-words l =
    declare_each l.fn.names (named_words Start (trees l.items)) (named_sorts l.sorts Start 0 (trees l.items))
    ≡ declare_each l.names (named_words l.spot (trees l.left)) l.waiting

abbrev pub decreases-words : goal.decreases-words
decreases-words l = count (trees l.left)
