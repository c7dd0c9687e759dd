use Rattle.std.proofs.Common.{ap₂, ◌∙◌}
use Rattle.std.proofs.lemmas.Result.{IfOk-weaker}
use Rattle.clap.specs.Words.{with_rule}
use Rattle.command_line.specs.Apps.{migrate_app}
use Rattle.command_line.proofs.migrate.migrate_command.Goals as goal

pub returns : goal.returns
unfolding migrate_app
returns c = IfOk-weaker c.arg.result _ _ (λ r h. h.shape c.positional.ensures.local
    ∙ ap₂ with_rule c.new.ensures.app c.positional.ensures.rule) c.arg.ensures
