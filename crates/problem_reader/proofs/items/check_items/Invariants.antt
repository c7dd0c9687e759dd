use Rattle.std.proofs.Common.{◌≡◌}
use Rattle.sexpr_text.specs.Trees.{trees}
use Rattle.form_reader.specs.Faults.{first}
use Rattle.form_reader.specs.Rows.{count}
use Rattle.problem_reader.specs.Names.{problem_items_names}
use Rattle.problem_reader.specs.Problems.{first_facts}
use Rattle.problem_reader.proofs.items.check_items.Given as goal

abbrev pub invariant-items : goal.invariant-items
invariant-items l = record {
  faults : first l.fn.so_far (problem_items_names l.setting.names.now l.setting.domain.now (trees l.items))
      ≡ first l.found (problem_items_names l.setting.names.now l.setting.domain.now (trees l.left));
  facts : first_facts l.setting.names.now l.fn.held.begun l.fn.held.facts.items (trees l.items)
      ≡ first_facts l.setting.names.now l.held.begun l.held.facts.items (trees l.left);
}

abbrev pub decreases-items : goal.decreases-items
decreases-items l = count (trees l.left)
