use Rattle.std.proofs.Common.{ap₂, ◌∙◌}
use Rattle.std.proofs.lemmas.Result.{IfOk-weaker}
use Rattle.clap.specs.Words.{with_rule}
use Rattle.command_line.specs.Apps.{play_app}
use Rattle.command_line.proofs.play.play_command.Goals as goal

pub returns : goal.returns
unfolding play_app
returns c = IfOk-weaker c.arg-3.result _ _ (λ r h. h.shape c.option.ensures.local
    ∙ ap₂ with_rule (c.in_ok-arg-2.ensures.shape c.positional-2.ensures.local
    ∙ ap₂ with_rule (c.in_ok-arg.ensures.shape c.positional.ensures.local
    ∙ ap₂ with_rule c.in_ok-task_command.ensures c.positional.ensures.rule) c.positional-2.ensures.rule) c.option.ensures.rule) c.arg-3.ensures
