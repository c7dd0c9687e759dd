use Rattle.std.proofs.Common.{◌≡◌}
use Rattle.sexpr_text.specs.Trees.{trees}
use Rattle.form_reader.specs.Rows.{count}
use Rattle.domain_reader.specs.Tables.{with_items}
use Rattle.domain_reader.proofs.tables.add_items.Given as goal

abbrev pub invariant-items : goal.invariant-items
invariant-items l = with_items l.fn.names (trees l.items) ≡ with_items l.names (trees l.left)

abbrev pub decreases-items : goal.decreases-items
decreases-items l = count (trees l.left)
