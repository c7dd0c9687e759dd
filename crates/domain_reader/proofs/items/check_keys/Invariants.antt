use Rattle.std.proofs.Common.{◌≡◌}
use Rattle.sexpr_text.specs.Trees.{trees}
use Rattle.form_reader.specs.Faults.{first}
use Rattle.form_reader.specs.Rows.{count}
use Rattle.form_reader.specs.declared.keys.Key.TheVariants.{NoKey}
use Rattle.domain_reader.specs.Names.{keys_names}
use Rattle.domain_reader.proofs.items.check_keys.Given as goal

abbrev pub invariant-keys : goal.invariant-keys
invariant-keys l = record {
  faults : first l.fn.so_far (keys_names l.names l.heads l.fn.scope NoKey (trees l.items))
      ≡ first l.found (keys_names l.names l.heads l.fn.scope l.key (trees l.left));
  scope : l.scope ≡ l.fn.scope;
}

abbrev pub decreases-keys : goal.decreases-keys
decreases-keys l = count (trees l.left)
