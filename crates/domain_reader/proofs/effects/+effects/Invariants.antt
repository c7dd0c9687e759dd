use Rattle.std.proofs.Common.{◌≡◌, ◌≤◌}
use Rattle.sexpr_text.specs.Trees.{trees}
use Rattle.form_reader.specs.Faults.{first}
use Rattle.form_reader.specs.Rows.{count}
use Rattle.domain_reader.specs.Effects.{effects_names}
use Rattle.domain_reader.proofs.effects.+effects.Given as goal

abbrev pub decreases-check_effect : goal.decreases-check_effect
decreases-check_effect l = count (trees l.items.now)

abbrev pub decreases-check_effects : goal.decreases-check_effects
decreases-check_effects l = count (trees l.items.now)

abbrev pub invariant-check_effects-parts : goal.invariant-check_effects-parts
invariant-check_effects-parts l = record {
  faults : first l.fn.so_far (effects_names l.names l.heads l.scope (trees l.items))
      ≡ first l.found (effects_names l.names l.heads l.scope (trees l.left));
  smaller : count (trees l.left) ≤ count (trees l.items);
}

abbrev pub decreases-check_effects-parts : goal.decreases-check_effects-parts
decreases-check_effects-parts l = count (trees l.left)
