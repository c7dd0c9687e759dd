use Rattle.std.proofs.Common.{◌≡◌, true, length}
use Rattle.std.specs.List.{list_all}
use Rattle.fact_join.specs.Answers.{is_pattern_of}
use Rattle.relaxed_task.proofs.inner.Exists.inner_atoms.Given as goal

abbrev pub invariant-loop-part : goal.invariant-loop-part
invariant-loop-part l = list_all (is_pattern_of (length l.self.sorts.now)) l.atoms.items ≡ true
