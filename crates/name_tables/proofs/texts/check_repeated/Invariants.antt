use Rattle.std.proofs.Common.{◌≡◌}
use Rattle.sexpr_text.specs.Trees.{trees}
use Rattle.form_reader.specs.Faults.{first}
use Rattle.form_reader.specs.Rows.{count}
use Rattle.name_tables.specs.Texts.{repeated_names}
use Rattle.name_tables.proofs.texts.check_repeated.Given as goal

abbrev pub invariant-words : goal.invariant-words
invariant-words l =
    first l.fn.so_far (repeated_names l.fn.seen (trees l.items))
    ≡ first l.found (repeated_names l.seen (trees l.left))

abbrev pub decreases-words : goal.decreases-words
decreases-words l = count (trees l.left)
