use Rattle.std.proofs.Common.{◌≡◌, ◌+◌}
use Rattle.sexpr_text.specs.Trees.{trees}
use Rattle.form_reader.specs.Rows.{count}
use Rattle.name_tables.specs.Terms.{width}
use Rattle.name_tables.proofs.terms.width.Given as goal

abbrev pub invariant-trees : goal.invariant-trees
invariant-trees l = width (trees l.items) ≡ l.count + width (trees l.left)

abbrev pub decreases-trees : goal.decreases-trees
decreases-trees l = count (trees l.left)
