use Rattle.std.proofs.Common.{◌≡◌, ◌++◌, []}
use Rattle.sexpr_text.specs.Trees.{trees}
use Rattle.form_reader.specs.Rows.{count}
use Rattle.domain_reader.specs.Cycles.{listed_in}
use Rattle.domain_reader.proofs.cycles.listed_types.Given as goal

abbrev pub invariant-items : goal.invariant-items
invariant-items l =
    listed_in l.sorts [] (trees l.body) ≡ l.listed.items ++ listed_in l.sorts l.seen (trees l.left)

abbrev pub decreases-items : goal.decreases-items
decreases-items l = count (trees l.left)
