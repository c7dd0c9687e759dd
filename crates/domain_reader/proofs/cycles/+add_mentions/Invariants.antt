use Rattle.std.proofs.Common.{◌≡◌, ◌≤◌}
use Rattle.sexpr_text.specs.Trees.{trees}
use Rattle.form_reader.specs.Rows.{count}
use Rattle.domain_reader.specs.Cycles.{mentions_in}
use Rattle.domain_reader.proofs.cycles.+add_mentions.Given as goal

abbrev pub decreases-add_mentions : goal.decreases-add_mentions
decreases-add_mentions l = count (trees l.items.now)

abbrev pub invariant-trees : goal.invariant-trees
invariant-trees l = record {
  edges : mentions_in l.predicates.names l.fn.edges l.from (trees l.items)
      ≡ mentions_in l.predicates.names l.edges l.from (trees l.left);
  smaller : count (trees l.left) ≤ count (trees l.items);
}

abbrev pub decreases-trees : goal.decreases-trees
decreases-trees l = count (trees l.left)
