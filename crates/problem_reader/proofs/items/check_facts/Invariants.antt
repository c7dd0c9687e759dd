use Rattle.std.proofs.Common.{◌≡◌, ◌++◌}
use Rattle.sexpr_text.specs.Trees.{trees}
use Rattle.form_reader.specs.Faults.{first}
use Rattle.form_reader.specs.Rows.{count}
use Rattle.problem_reader.specs.Names.{facts_names}
use Rattle.problem_reader.specs.Problems.{facts_of}
use Rattle.problem_reader.proofs.items.check_facts.Given as goal

abbrev pub invariant-facts : goal.invariant-facts
invariant-facts l = record {
  faults : first l.fn.so_far (facts_names l.setting.names.now l.setting.domain.now.roles (trees l.items))
      ≡ first l.found (facts_names l.setting.names.now l.setting.domain.now.roles (trees l.left));
  facts : l.fn.facts.items ++ facts_of l.setting.names.now (trees l.items)
      ≡ l.facts.items ++ facts_of l.setting.names.now (trees l.left);
}

abbrev pub decreases-facts : goal.decreases-facts
decreases-facts l = count (trees l.left)
