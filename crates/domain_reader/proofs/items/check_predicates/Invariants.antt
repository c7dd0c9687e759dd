use Rattle.std.proofs.Common.{◌≡◌}
use Rattle.sexpr_text.specs.Trees.{trees}
use Rattle.form_reader.specs.Faults.{first}
use Rattle.form_reader.specs.Rows.{count}
use Rattle.domain_reader.specs.Names.{predicates_names}
use Rattle.domain_reader.proofs.items.check_predicates.Given as goal

abbrev pub invariant-declarations : goal.invariant-declarations
invariant-declarations l =
    first l.fn.so_far (predicates_names l.sorts (trees l.items))
    ≡ first l.found (predicates_names l.sorts (trees l.left))

abbrev pub decreases-declarations : goal.decreases-declarations
decreases-declarations l = count (trees l.left)
