use Rattle.std.proofs.Common.{◌≡◌}
use Rattle.sexpr_text.specs.Trees.{trees}
use Rattle.form_reader.specs.Texts.{has_item}
use Rattle.form_reader.specs.Rows.{count}
use Rattle.form_reader.proofs.texts.has_item.Given as goal

-- the trees so far aren't it
abbrev pub invariant-trees : goal.invariant-trees
invariant-trees l = has_item l.word (trees l.items) ≡ has_item l.word (trees l.left)

abbrev pub decreases-trees : goal.decreases-trees
decreases-trees l = count (trees l.left)
