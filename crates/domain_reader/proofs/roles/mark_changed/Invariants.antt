use Rattle.std.proofs.Common.{◌≡◌, drop}
use Rattle.task_model.specs.declared.domain.Role.TheVariants.{Fluent}
use Rattle.domain_reader.specs.Marks.{all_marked, changed_preds}
use Rattle.domain_reader.proofs.roles.mark_changed.Given as goal

abbrev pub invariant-loop-pattern : goal.invariant-loop-pattern
invariant-loop-pattern l =
    all_marked Fluent l.fn.roles.items (changed_preds l.patterns)
    ≡ all_marked Fluent l.roles.items (changed_preds (drop l.pattern-index l.patterns))
