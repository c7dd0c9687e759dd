use Rattle.std.proofs.Common.{◌≡◌, ◌≤◌}
use Rattle.sexpr_text.specs.Trees.{trees}
use Rattle.form_reader.specs.Rows.{count}
use Rattle.name_tables.specs.Conditions.{conditions_of}
use Rattle.name_tables.proofs.ConditionsRowLemmas.{parts_then}
use Rattle.name_tables.proofs.formulas.+formulas.Given as goal

abbrev pub decreases-condition_of : goal.decreases-condition_of
decreases-condition_of l = count (trees l.items.now)

abbrev pub decreases-conditions_of : goal.decreases-conditions_of
decreases-conditions_of l = count (trees l.items.now)

abbrev pub decreases-single_of : goal.decreases-single_of
decreases-single_of l = count (trees l.items.now)

abbrev pub decreases-exists_of : goal.decreases-exists_of
decreases-exists_of l = count (trees l.items.now)

abbrev pub invariant-conditions_of-parts : goal.invariant-conditions_of-parts
invariant-conditions_of-parts l = record {
  value : conditions_of l.names l.fn.scope (trees l.items) ≡ parts_then l.parts.items (conditions_of l.names l.fn.scope (trees l.left));
  scope : l.scope ≡ l.fn.scope;
  smaller : count (trees l.left) ≤ count (trees l.items);
}

abbrev pub decreases-conditions_of-parts : goal.decreases-conditions_of-parts
decreases-conditions_of-parts l = count (trees l.left)
