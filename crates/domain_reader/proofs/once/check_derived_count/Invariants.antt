use Rattle.std.proofs.Common.{◌≡◌, []}
use Rattle.sexpr_text.specs.Trees.{trees}
use Rattle.form_reader.specs.Faults.{first}
use Rattle.form_reader.specs.Rows.{count}
use Rattle.domain_reader.specs.Names.{too_many_derived}
use Rattle.domain_reader.proofs.once.check_derived_count.Given as goal

abbrev pub invariant-items : goal.invariant-items
invariant-items l =
    first l.fn.so_far (too_many_derived l.predicates.names [] (trees l.items))
    ≡ first l.found (too_many_derived l.predicates.names l.heads (trees l.left))

abbrev pub decreases-items : goal.decreases-items
decreases-items l = count (trees l.left)
