use Rattle.std.proofs.Common.{◌≡◌, ◌≤◌}
use Rattle.sexpr_text.specs.Trees.{trees}
use Rattle.form_reader.specs.Faults.{first}
use Rattle.form_reader.specs.Refused.{refused_faults}
use Rattle.form_reader.specs.Rows.{count}
use Rattle.form_reader.proofs.refused.+check_refused.Given as goal

abbrev pub decreases-check_refused : goal.decreases-check_refused
decreases-check_refused l = count (trees l.items.now)

-- what is left adds its faults to those found
abbrev pub invariant-trees : goal.invariant-trees
invariant-trees l = record {
  faults : first l.fn.so_far (refused_faults l.region (trees l.items)) ≡ first l.found (refused_faults l.region (trees l.left));
  smaller : count (trees l.left) ≤ count (trees l.items);
}

abbrev pub decreases-trees : goal.decreases-trees
decreases-trees l = count (trees l.left)
