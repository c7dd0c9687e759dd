use Rattle.std.proofs.Common.{◌≡◌, ◌≤◌}
use Rattle.sexpr_text.specs.Trees.{trees}
use Rattle.form_reader.specs.Faults.{first}
use Rattle.form_reader.specs.Rows.{count}
use Rattle.stream_reader.specs.Atoms.{atom_rows_names}
use Rattle.stream_reader.proofs.atoms.+atoms.Given as goal

abbrev pub decreases-check_atoms : goal.decreases-check_atoms
decreases-check_atoms l = count (trees l.items.now)

abbrev pub decreases-check_atom_rows : goal.decreases-check_atom_rows
decreases-check_atom_rows l = count (trees l.items.now)

abbrev pub invariant-check_atom_rows-parts : goal.invariant-check_atom_rows-parts
invariant-check_atom_rows-parts l = record {
  faults : first l.fn.so_far (atom_rows_names l.names l.roles l.scope (trees l.items))
      ≡ first l.found (atom_rows_names l.names l.roles l.scope (trees l.left));
  smaller : count (trees l.left) ≤ count (trees l.items);
}

abbrev pub decreases-check_atom_rows-parts : goal.decreases-check_atom_rows-parts
decreases-check_atom_rows-parts l = count (trees l.left)
