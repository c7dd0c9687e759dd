use Rattle.std.proofs.Common.{◌≡◌}
use Rattle.sexpr_text.specs.Trees.{trees}
use Rattle.form_reader.specs.Rows.{count}
use Rattle.domain_reader.specs.Tables.{predicates_in}
use Rattle.domain_reader.proofs.tables.add_predicates.Given as goal

abbrev pub invariant-declarations : goal.invariant-declarations
invariant-declarations l =
    predicates_in l.fn.signatures (trees l.items) ≡ predicates_in l.signatures (trees l.left)

abbrev pub decreases-declarations : goal.decreases-declarations
decreases-declarations l = count (trees l.left)
