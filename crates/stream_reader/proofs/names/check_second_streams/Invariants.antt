use Rattle.std.proofs.Common.{◌≡◌, []}
use Rattle.sexpr_text.specs.Trees.{trees}
use Rattle.form_reader.specs.Faults.{first}
use Rattle.form_reader.specs.Rows.{count}
use Rattle.stream_reader.specs.Names.{second_streams}
use Rattle.stream_reader.proofs.names.check_second_streams.Given as goal

abbrev pub invariant-items : goal.invariant-items
invariant-items l =
    first l.fn.so_far (second_streams [] (trees l.items))
    ≡ first l.found (second_streams l.seen (trees l.left))

abbrev pub decreases-items : goal.decreases-items
decreases-items l = count (trees l.left)
