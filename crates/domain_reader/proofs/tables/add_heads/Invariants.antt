use Rattle.std.proofs.Common.{◌≡◌}
use Rattle.sexpr_text.specs.Trees.{trees}
use Rattle.form_reader.specs.Rows.{count}
use Rattle.domain_reader.specs.Tables.{heads_in}
use Rattle.domain_reader.proofs.tables.add_heads.Given as goal

abbrev pub invariant-items : goal.invariant-items
invariant-items l = heads_in l.fn.names (trees l.items) ≡ heads_in l.names (trees l.left)

abbrev pub decreases-items : goal.decreases-items
decreases-items l = count (trees l.left)
