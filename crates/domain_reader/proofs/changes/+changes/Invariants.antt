use Rattle.std.proofs.Common.{◌≡◌, ◌≤◌}
use Rattle.sexpr_text.specs.Trees.{trees}
use Rattle.form_reader.specs.Rows.{count}
use Rattle.domain_reader.specs.Effects.{after_effects}
use Rattle.domain_reader.proofs.changes.+changes.Given as goal

abbrev pub decreases-note_effect : goal.decreases-note_effect
decreases-note_effect l = count (trees l.items.now)

abbrev pub decreases-note_effects : goal.decreases-note_effects
decreases-note_effects l = count (trees l.items.now)

abbrev pub invariant-note_effects-parts : goal.invariant-note_effects-parts
invariant-note_effects-parts l = record {
  done : after_effects l.names l.scope l.fn.changes (trees l.items) ≡ after_effects l.names l.scope l.changes (trees l.left);
  smaller : count (trees l.left) ≤ count (trees l.items);
}

abbrev pub decreases-note_effects-parts : goal.decreases-note_effects-parts
decreases-note_effects-parts l = count (trees l.left)
