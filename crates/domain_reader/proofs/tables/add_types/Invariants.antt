use Rattle.std.proofs.Common.{◌≡◌}
use Rattle.sexpr_text.specs.Trees.{trees}
use Rattle.form_reader.specs.Rows.{count}
use Rattle.domain_reader.specs.Tables.{types_in}
use Rattle.domain_reader.proofs.tables.add_types.Given as goal

abbrev pub invariant-words : goal.invariant-words
invariant-words l = types_in l.fn.names (trees l.items) ≡ types_in l.names (trees l.left)

abbrev pub decreases-words : goal.decreases-words
decreases-words l = count (trees l.left)
