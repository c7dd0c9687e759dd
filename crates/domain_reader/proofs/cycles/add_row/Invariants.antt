use Rattle.std.proofs.Common.{◌≡◌}
use Rattle.sexpr_text.specs.Trees.{trees}
use Rattle.form_reader.specs.declared.groups.Spot.TheVariants.{Start}
use Rattle.form_reader.specs.Rows.{count}
use Rattle.domain_reader.specs.Cycles.{edges_each}
use Rattle.name_tables.specs.Variables.{named_sorts, named_words}
use Rattle.domain_reader.proofs.cycles.add_row.Given as goal

abbrev pub invariant-words : goal.invariant-words
invariant-words l =
    edges_each l.sorts l.fn.edges (named_words Start (trees l.items)) (named_sorts l.sorts Start 0 (trees l.items))
    ≡ edges_each l.sorts l.edges (named_words l.spot (trees l.left)) l.waiting

abbrev pub decreases-words : goal.decreases-words
decreases-words l = count (trees l.left)
