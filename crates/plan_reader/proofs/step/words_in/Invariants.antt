use Rattle.std.proofs.Common.{◌≡◌}
use Rattle.sexpr_text.specs.Trees.{trees}
use Rattle.form_reader.specs.Rows.{count}
use Rattle.plan_reader.specs.Steps.{behind_words, words_in}
use Rattle.plan_reader.proofs.step.words_in.Given as goal

abbrev pub invariant-words : goal.invariant-words
invariant-words l =
    words_in l.fn.bytes (trees l.fn.items) ≡ behind_words l.words.items (words_in l.fn.bytes (trees l.left))

abbrev pub decreases-words : goal.decreases-words
decreases-words l = count (trees l.left)
