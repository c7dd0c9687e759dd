use Rattle.std.proofs.Common.{◌≡◌, ◌++◌}
use Rattle.sexpr_text.specs.Trees.{trees}
use Rattle.form_reader.specs.Rows.{count}
use Rattle.domain_reader.specs.Domains.{actions_of}
use Rattle.domain_reader.proofs.domain.actions_of.Given as goal

abbrev pub invariant-items : goal.invariant-items
invariant-items l =
    actions_of l.names (trees l.items) ≡ l.list.items ++ actions_of l.names (trees l.left)

abbrev pub decreases-items : goal.decreases-items
decreases-items l = count (trees l.left)
