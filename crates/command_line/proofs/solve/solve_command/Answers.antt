use Rattle.std.proofs.Common.{ap₂, ◌∙◌}
use Rattle.std.proofs.lemmas.Result.{IfOk-weaker}
use Rattle.clap.specs.Words.{with_rule}
use Rattle.command_line.specs.Apps.{solve_app}
use Rattle.command_line.proofs.solve.solve_command.Goals as goal

pub returns : goal.returns
unfolding solve_app
returns c = IfOk-weaker c.arg-10.result _ _ (λ r h. h.shape c.option-8.ensures.local
    ∙ ap₂ with_rule (c.in_ok-arg-9.ensures.shape c.flag.ensures.local
    ∙ ap₂ with_rule (c.in_ok-arg-8.ensures.shape c.option-7.ensures.local
    ∙ ap₂ with_rule (c.in_ok-arg-7.ensures.shape c.option-6.ensures.local
    ∙ ap₂ with_rule (c.in_ok-arg-6.ensures.shape c.option-5.ensures.local
    ∙ ap₂ with_rule (c.in_ok-arg-5.ensures.shape c.option-4.ensures.local
    ∙ ap₂ with_rule (c.in_ok-arg-4.ensures.shape c.option-3.ensures.local
    ∙ ap₂ with_rule (c.in_ok-arg-3.ensures.shape c.option-2.ensures.local
    ∙ ap₂ with_rule (c.in_ok-arg-2.ensures.shape c.option.ensures.local
    ∙ ap₂ with_rule (c.in_ok-arg.ensures.shape c.trailing.ensures.local
    ∙ ap₂ with_rule c.in_ok-task_command.ensures c.trailing.ensures.rule) c.option.ensures.rule) c.option-2.ensures.rule)
    c.option-3.ensures.rule) c.option-4.ensures.rule) c.option-5.ensures.rule) c.option-6.ensures.rule)
    c.option-7.ensures.rule) c.flag.ensures.rule) c.option-8.ensures.rule) c.arg-10.ensures
