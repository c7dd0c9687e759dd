use Rattle.std.proofs.Common.{◌≡◌, ◌+◌, ◌++◌}
use Rattle.sexpr_text.specs.Trees.{trees}
use Rattle.form_reader.specs.Rows.{count}
use Rattle.stream_reader.specs.Cycles.{candidates_of}
use Rattle.stream_reader.proofs.cycles.candidates_of.Given as goal

abbrev pub invariant-items : goal.invariant-items
invariant-items l =
    candidates_of 0 (trees l.items) ≡ l.list.items ++ candidates_of l.count (trees l.left)

abbrev pub decreases-items : goal.decreases-items
decreases-items l = count (trees l.left)
