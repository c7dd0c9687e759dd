use Rattle.std.proofs.Common.{◌≡◌, []}
use Rattle.sexpr_text.specs.Trees.{trees}
use Rattle.form_reader.specs.declared.keys.Key.TheVariants.{NoKey}
use Rattle.form_reader.specs.Faults.{first}
use Rattle.form_reader.specs.Rows.{count}
use Rattle.stream_reader.specs.Names.{second_variables}
use Rattle.stream_reader.proofs.names.check_second_variables.Given as goal

abbrev pub invariant-keys : goal.invariant-keys
invariant-keys l =
    first l.fn.so_far (second_variables l.keyed [] NoKey (trees l.items))
    ≡ first l.found (second_variables l.keyed l.seen l.key (trees l.left))

abbrev pub decreases-keys : goal.decreases-keys
decreases-keys l = count (trees l.left)
