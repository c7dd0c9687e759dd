use Rattle.std.proofs.Common.{◌≡◌}
use Rattle.sexpr_text.specs.Trees.{trees}
use Rattle.form_reader.specs.Faults.{first}
use Rattle.form_reader.specs.Rows.{count}
use Rattle.stream_reader.specs.Names.{stream_items_names}
use Rattle.stream_reader.proofs.names.check_items.Given as goal

abbrev pub invariant-items : goal.invariant-items
invariant-items l =
    first l.fn.so_far (stream_items_names l.names l.roles (trees l.items))
    ≡ first l.found (stream_items_names l.names l.roles (trees l.left))

abbrev pub decreases-items : goal.decreases-items
decreases-items l = count (trees l.left)
