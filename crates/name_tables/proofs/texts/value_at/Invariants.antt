use Rattle.std.proofs.Common.{◌≡◌}
use Rattle.sexpr_text.specs.Trees.{trees}
use Rattle.form_reader.specs.Rows.{count}
use Rattle.name_tables.specs.Texts.{value_at}
use Rattle.name_tables.proofs.texts.value_at.Given as goal

abbrev pub invariant-keys : goal.invariant-keys
invariant-keys l = value_at l.key (trees l.keys) ≡ value_at l.key (trees l.left)

abbrev pub decreases-keys : goal.decreases-keys
decreases-keys l = count (trees l.left)
