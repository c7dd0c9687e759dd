use Rattle.std.proofs.Common.{◌≡◌}
use Rattle.sexpr_text.specs.Trees.{trees}
use Rattle.form_reader.specs.Rows.{count}
use Rattle.domain_reader.specs.Domains.{constants_in}
use Rattle.domain_reader.proofs.domain.add_constants.Given as goal

abbrev pub invariant-items : goal.invariant-items
invariant-items l =
    constants_in l.sorts l.fn.names (trees l.items) ≡ constants_in l.sorts l.names (trees l.left)

abbrev pub decreases-items : goal.decreases-items
decreases-items l = count (trees l.left)
