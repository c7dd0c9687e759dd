use Rattle.std.proofs.Common.{◌≡◌, true}
use Rattle.std.specs.List.{list_all}
use Rattle.fact_join.specs.Answers.{is_atom_over}
use Rattle.relaxed_task.proofs.tuples.query_atoms.Given as goal

abbrev pub invariant-loop-pattern : goal.invariant-loop-pattern
invariant-loop-pattern l = list_all (is_atom_over l.width) l.atoms.items ≡ true
