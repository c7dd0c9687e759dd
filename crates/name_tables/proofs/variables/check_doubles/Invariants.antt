use Rattle.std.proofs.Common.{◌≡◌}
use Rattle.sexpr_text.specs.Trees.{trees}
use Rattle.form_reader.specs.declared.groups.Spot.TheVariants.{Start}
use Rattle.form_reader.specs.Faults.{first}
use Rattle.form_reader.specs.Rows.{count}
use Rattle.name_tables.specs.Variables.{doubles_names, seen_after}
use Rattle.name_tables.proofs.variables.check_doubles.Given as goal

abbrev pub invariant-words : goal.invariant-words
invariant-words l = record {
  faults : first l.fn.so_far (doubles_names l.fn.seen Start (trees l.items)) ≡ first l.found (doubles_names l.seen l.spot (trees l.left));
  seen : seen_after l.fn.seen Start (trees l.items) ≡ seen_after l.seen l.spot (trees l.left);
}

abbrev pub decreases-words : goal.decreases-words
decreases-words l = count (trees l.left)
