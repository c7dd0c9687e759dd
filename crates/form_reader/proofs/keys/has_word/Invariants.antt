use Rattle.std.proofs.Common.{◌≡◌}
use Rattle.sexpr_text.specs.Trees.{trees}
use Rattle.form_reader.specs.Keys.{has_word}
use Rattle.form_reader.specs.Rows.{count}
use Rattle.form_reader.proofs.keys.has_word.Given as goal

-- the trees so far aren't it
abbrev pub invariant-trees : goal.invariant-trees
invariant-trees l = has_word l.word (trees l.items) ≡ has_word l.word (trees l.left)

abbrev pub decreases-trees : goal.decreases-trees
decreases-trees l = count (trees l.left)
