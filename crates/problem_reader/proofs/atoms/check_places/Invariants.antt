use Rattle.std.proofs.Common.{◌≡◌, [], ◌++◌}
use Rattle.sexpr_text.specs.Trees.{trees}
use Rattle.form_reader.specs.Faults.{first}
use Rattle.form_reader.specs.Rows.{count}
use Rattle.name_tables.specs.Terms.{terms_names}
use Rattle.problem_reader.specs.Problems.{places_in_row}
use Rattle.problem_reader.proofs.atoms.check_places.Given as goal

abbrev pub invariant-terms : goal.invariant-terms
invariant-terms l = record {
  faults : first l.fn.so_far (terms_names l.objects [] (trees l.items)) ≡ first l.found (terms_names l.objects [] (trees l.left));
  places : places_in_row l.objects (trees l.items) ≡ l.row ++ places_in_row l.objects (trees l.left);
}

abbrev pub decreases-terms : goal.decreases-terms
decreases-terms l = count (trees l.left)
