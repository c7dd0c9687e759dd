use Rattle.std.proofs.Common.{◌≡◌, ◌+◌, ◌++◌}
use Rattle.sexpr_text.specs.Trees.{trees}
use Rattle.form_reader.specs.Rows.{count}
use Rattle.stream_reader.specs.Streams.{streams_of}
use Rattle.stream_reader.proofs.streams.streams_of.Given as goal

abbrev pub invariant-items : goal.invariant-items
invariant-items l =
    streams_of l.names (trees l.items) ≡ l.list.items ++ streams_of l.names (trees l.left)

abbrev pub decreases-items : goal.decreases-items
decreases-items l = count (trees l.left)
