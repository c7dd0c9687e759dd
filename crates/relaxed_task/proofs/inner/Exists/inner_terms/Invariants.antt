use Rattle.std.proofs.Common.{◌≡◌, true, length}
use Rattle.std.specs.List.{list_all}
use Rattle.fact_join.specs.Answers.{is_term_of}
use Rattle.relaxed_task.proofs.inner.Exists.inner_terms.Given as goal

abbrev pub invariant-loop-term : goal.invariant-loop-term
invariant-loop-term l =
    (list_all (is_term_of (length l.self.sorts.now)) l.inner.items ≡ true) × (length l.inner.items ≡ l.term-index)
