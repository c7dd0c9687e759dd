use Rattle.std.proofs.Common.{◌≡◌, ◌++◌}
use Rattle.sexpr_text.specs.Trees.{trees}
use Rattle.form_reader.specs.declared.groups.Spot.TheVariants.{Start}
use Rattle.form_reader.specs.Rows.{count}
use Rattle.domain_reader.specs.Cycles.{listed_row}
use Rattle.name_tables.specs.Variables.{seen_after}
use Rattle.domain_reader.proofs.cycles.list_row.Given as goal

abbrev pub invariant-words : goal.invariant-words
invariant-words l = record {
  listed : l.fn.listed.items ++ listed_row l.sorts l.fn.seen Start (trees l.items)
      ≡ l.listed.items ++ listed_row l.sorts l.seen l.spot (trees l.left);
  seen : seen_after l.fn.seen Start (trees l.items) ≡ seen_after l.seen l.spot (trees l.left);
}

abbrev pub decreases-words : goal.decreases-words
decreases-words l = count (trees l.left)
