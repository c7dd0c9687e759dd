use Rattle.std.proofs.Common.{◌≡◌}
use Rattle.sexpr_text.specs.Trees.{trees}
use Rattle.form_reader.specs.Faults.{first}
use Rattle.form_reader.specs.Rows.{count}
use Rattle.domain_reader.specs.Names.{second_declared, declared_after}
use Rattle.domain_reader.proofs.once.check_second_declared.Given as goal

abbrev pub invariant-declarations : goal.invariant-declarations
invariant-declarations l = record {
  faults : first l.fn.so_far (second_declared l.fn.seen (trees l.items)) ≡ first l.found (second_declared l.seen (trees l.left));
  seen : declared_after l.fn.seen (trees l.items) ≡ declared_after l.seen (trees l.left);
}

abbrev pub decreases-declarations : goal.decreases-declarations
decreases-declarations l = count (trees l.left)
