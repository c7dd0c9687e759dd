use Rattle.std.proofs.Common.{◌≡◌}
use Rattle.sexpr_text.specs.Trees.{trees}
use Rattle.form_reader.specs.Rows.{count}
use Rattle.domain_reader.specs.Cycles.{edges_in}
use Rattle.domain_reader.proofs.cycles.add_types.Given as goal

abbrev pub invariant-items : goal.invariant-items
invariant-items l =
    edges_in l.sorts l.fn.edges (trees l.items)
    ≡ edges_in l.sorts l.edges (trees l.left)

abbrev pub decreases-items : goal.decreases-items
decreases-items l = count (trees l.left)
