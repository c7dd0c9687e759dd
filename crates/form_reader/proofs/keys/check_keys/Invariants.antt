use Rattle.std.proofs.Common.{◌≡◌}
use Rattle.sexpr_text.specs.Trees.{trees}
use Rattle.form_reader.specs.Keys.{keys_faults}
use Rattle.form_reader.specs.Faults.{first}
use Rattle.form_reader.specs.Rows.{count}
use Rattle.form_reader.proofs.keys.check_keys.Given as goal

-- what is left adds its faults to those found
abbrev pub invariant-keys : goal.invariant-keys
invariant-keys l =
    first l.fn.so_far (keys_faults l.keyed l.place (trees l.items)) ≡ first l.found (keys_faults l.keyed l.place (trees l.left))

abbrev pub decreases-keys : goal.decreases-keys
decreases-keys l = count (trees l.left)
