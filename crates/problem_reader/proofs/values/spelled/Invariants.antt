use Rattle.std.proofs.Common.{◌≡◌, ◌++◌}
use Rattle.sexpr_text.specs.Trees.{trees}
use Rattle.form_reader.specs.Rows.{count}
use Rattle.problem_reader.specs.Values.{spelled_term}
use Rattle.problem_reader.proofs.values.spelled.Given as goal

abbrev pub invariant-words : goal.invariant-words
invariant-words l = spelled_term (trees l.items) ≡ l.letters.items ++ spelled_term (trees l.left)

abbrev pub decreases-words : goal.decreases-words
decreases-words l = count (trees l.left)
