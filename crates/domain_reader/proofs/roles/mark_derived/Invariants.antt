use Rattle.std.proofs.Common.{◌≡◌, drop}
use Rattle.task_model.specs.declared.domain.Role.TheVariants.{Derived}
use Rattle.domain_reader.specs.Marks.{all_marked, headed_preds}
use Rattle.domain_reader.proofs.roles.mark_derived.Given as goal

abbrev pub invariant-loop-rule : goal.invariant-loop-rule
invariant-loop-rule l =
    all_marked Derived l.fn.roles.items (headed_preds l.rules)
    ≡ all_marked Derived l.roles.items (headed_preds (drop l.rule-index l.rules))
