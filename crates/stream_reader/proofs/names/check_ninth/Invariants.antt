use Rattle.std.proofs.Common.{◌≡◌}
use Rattle.sexpr_text.specs.Trees.{trees}
use Rattle.form_reader.specs.declared.groups.Spot.TheVariants.{Start}
use Rattle.form_reader.specs.Faults.{first}
use Rattle.form_reader.specs.Rows.{count}
use Rattle.stream_reader.specs.Names.{ninth_names}
use Rattle.stream_reader.proofs.names.check_ninth.Given as goal

abbrev pub invariant-words : goal.invariant-words
invariant-words l =
    first l.fn.so_far (ninth_names 0 Start (trees l.items))
    ≡ first l.found (ninth_names l.before l.spot (trees l.left))

abbrev pub decreases-words : goal.decreases-words
decreases-words l = count (trees l.left)
