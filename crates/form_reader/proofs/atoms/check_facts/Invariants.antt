use Rattle.std.proofs.Common.{◌≡◌}
use Rattle.sexpr_text.specs.Trees.{trees}
use Rattle.form_reader.specs.Atoms.{facts_faults}
use Rattle.form_reader.specs.Faults.{first}
use Rattle.form_reader.specs.Rows.{count}
use Rattle.form_reader.proofs.atoms.check_facts.Given as goal

-- what is left adds its faults to those found
abbrev pub invariant-facts : goal.invariant-facts
invariant-facts l =
    first l.fn.so_far (facts_faults (trees l.items)) ≡ first l.found (facts_faults (trees l.left))

abbrev pub decreases-facts : goal.decreases-facts
decreases-facts l = count (trees l.left)
