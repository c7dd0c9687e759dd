use Rattle.std.proofs.Common.{◌≡◌, ◌++◌}
use Rattle.sexpr_text.specs.Trees.{trees}
use Rattle.form_reader.specs.Rows.{count}
use Rattle.name_tables.specs.Terms.{terms_of}
use Rattle.name_tables.proofs.terms.terms_of.Given as goal

abbrev pub invariant-terms : goal.invariant-terms
invariant-terms l =
    terms_of l.objects l.scope (trees l.items)
    ≡ l.terms.items ++ terms_of l.objects l.scope (trees l.left)

abbrev pub decreases-terms : goal.decreases-terms
decreases-terms l = count (trees l.left)
