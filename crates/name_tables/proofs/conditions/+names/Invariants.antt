use Rattle.std.proofs.Common.{◌≡◌, ◌≤◌}
use Rattle.sexpr_text.specs.Trees.{trees}
use Rattle.form_reader.specs.Faults.{first}
use Rattle.form_reader.specs.Rows.{count}
use Rattle.name_tables.specs.Conditions.{conditions_names}
use Rattle.name_tables.proofs.conditions.+names.Given as goal

abbrev pub decreases-check_condition : goal.decreases-check_condition
decreases-check_condition l = count (trees l.items.now)

abbrev pub decreases-check_conditions : goal.decreases-check_conditions
decreases-check_conditions l = count (trees l.items.now)

abbrev pub decreases-check_exists : goal.decreases-check_exists
decreases-check_exists l = count (trees l.items.now)

abbrev pub invariant-check_conditions-parts : goal.invariant-check_conditions-parts
invariant-check_conditions-parts l = record {
  faults : first l.fn.so_far (conditions_names l.names l.fn.scope (trees l.items))
      ≡ first l.found (conditions_names l.names l.fn.scope (trees l.left));
  scope : l.scope ≡ l.fn.scope;
  smaller : count (trees l.left) ≤ count (trees l.items);
}

abbrev pub decreases-check_conditions-parts : goal.decreases-check_conditions-parts
decreases-check_conditions-parts l = count (trees l.left)
