use Rattle.std.proofs.Common.{◌≡◌}
use Rattle.sexpr_text.specs.Trees.{trees}
use Rattle.form_reader.specs.declared.keys.Key.TheVariants.{NoKey}
use Rattle.form_reader.specs.Faults.{first}
use Rattle.form_reader.specs.Rows.{count}
use Rattle.stream_reader.specs.Names.{stream_keys_names}
use Rattle.stream_reader.proofs.names.check_keys.Given as goal

abbrev pub invariant-keys : goal.invariant-keys
invariant-keys l =
    first l.fn.so_far (stream_keys_names l.names l.roles l.scopes l.keyed NoKey (trees l.items))
    ≡ first l.found (stream_keys_names l.names l.roles l.scopes l.keyed l.key (trees l.left))

abbrev pub decreases-keys : goal.decreases-keys
decreases-keys l = count (trees l.left)
