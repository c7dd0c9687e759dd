use Rattle.std.proofs.Common.{◌≡◌, ◌+◌, ◌++◌, ◌≤◌}
use Rattle.sexpr_text.specs.Trees.{trees}
use Rattle.form_reader.specs.Rows.{count}
use Rattle.stream_reader.specs.Atoms.{row_patterns}
use Rattle.stream_reader.proofs.atoms.+patterns.Given as goal

abbrev pub decreases-add_patterns : goal.decreases-add_patterns
decreases-add_patterns l = count (trees l.items.now)

abbrev pub decreases-add_row_patterns : goal.decreases-add_row_patterns
decreases-add_row_patterns l = count (trees l.items.now)

abbrev pub invariant-add_row_patterns-parts : goal.invariant-add_row_patterns-parts
invariant-add_row_patterns-parts l = record {
  atoms : l.fn.list.items ++ row_patterns l.names l.scope (trees l.items) ≡ l.list.items ++ row_patterns l.names l.scope (trees l.left);
  smaller : count (trees l.left) ≤ count (trees l.items);
}

abbrev pub decreases-add_row_patterns-parts : goal.decreases-add_row_patterns-parts
decreases-add_row_patterns-parts l = count (trees l.left)
