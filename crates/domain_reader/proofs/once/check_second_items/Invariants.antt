use Rattle.std.proofs.Common.{◌≡◌, []}
use Rattle.sexpr_text.specs.Trees.{trees}
use Rattle.form_reader.specs.Faults.{first}
use Rattle.form_reader.specs.Rows.{count}
use Rattle.domain_reader.specs.Names.{second_items}
use Rattle.domain_reader.proofs.once.check_second_items.Given as goal

abbrev pub invariant-items : goal.invariant-items
invariant-items l =
    first l.fn.so_far (second_items l.text [] (trees l.items))
    ≡ first l.found (second_items l.text l.seen (trees l.left))

abbrev pub decreases-items : goal.decreases-items
decreases-items l = count (trees l.left)
