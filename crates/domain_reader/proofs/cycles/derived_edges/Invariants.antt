use Rattle.std.proofs.Common.{◌≡◌}
use Rattle.sexpr_text.specs.Trees.{trees}
use Rattle.form_reader.specs.Rows.{count}
use Rattle.domain_reader.specs.Cycles.{derived_edges, bodies_in}
use Rattle.domain_reader.proofs.cycles.derived_edges.Given as goal

abbrev pub invariant-items : goal.invariant-items
invariant-items l =
    derived_edges l.predicates.names (trees l.body)
    ≡ bodies_in l.predicates.names l.edges (trees l.left)

abbrev pub decreases-items : goal.decreases-items
decreases-items l = count (trees l.left)
