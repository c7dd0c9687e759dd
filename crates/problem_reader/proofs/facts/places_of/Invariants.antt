use Rattle.std.proofs.Common.{◌≡◌, ◌++◌}
use Rattle.sexpr_text.specs.Trees.{trees}
use Rattle.form_reader.specs.Rows.{count}
use Rattle.problem_reader.specs.Problems.{places_in_row}
use Rattle.problem_reader.proofs.facts.places_of.Given as goal

abbrev pub invariant-words : goal.invariant-words
invariant-words l =
    places_in_row l.objects (trees l.items) ≡ l.row ++ places_in_row l.objects (trees l.left)

abbrev pub decreases-words : goal.decreases-words
decreases-words l = count (trees l.left)
