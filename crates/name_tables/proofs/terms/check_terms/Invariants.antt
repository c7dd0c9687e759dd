use Rattle.std.proofs.Common.{◌≡◌}
use Rattle.sexpr_text.specs.Trees.{trees}
use Rattle.form_reader.specs.Faults.{first}
use Rattle.form_reader.specs.Rows.{count}
use Rattle.name_tables.specs.Terms.{terms_names}
use Rattle.name_tables.proofs.terms.check_terms.Given as goal

abbrev pub invariant-terms : goal.invariant-terms
invariant-terms l =
    first l.fn.so_far (terms_names l.objects l.scope (trees l.items))
    ≡ first l.found (terms_names l.objects l.scope (trees l.left))

abbrev pub decreases-terms : goal.decreases-terms
decreases-terms l = count (trees l.left)
