use Rattle.std.proofs.Common.{ap₂, ◌∙◌}
use Rattle.std.proofs.lemmas.Result.{IfOk-weaker}
use Rattle.clap.specs.Words.{with_rule}
use Rattle.validate_app.specs.Words.{validate_app}
use Rattle.validate_app.proofs.words.validate_command.Goals as goal

pub returns : goal.returns
unfolding validate_app
returns c = IfOk-weaker c.arg-5.result _ _ (λ r h. h.shape c.optional-2.ensures.local
    ∙ ap₂ with_rule (c.in_ok-arg-4.ensures.shape c.optional.ensures.local
    ∙ ap₂ with_rule (c.in_ok-arg-3.ensures.shape c.positional-3.ensures.local
    ∙ ap₂ with_rule (c.in_ok-arg-2.ensures.shape c.positional-2.ensures.local
    ∙ ap₂ with_rule (c.in_ok-arg.ensures.shape c.positional.ensures.local
    ∙ ap₂ with_rule c.new.ensures.app c.positional.ensures.rule) c.positional-2.ensures.rule)
    c.positional-3.ensures.rule)
    c.optional.ensures.rule) c.optional-2.ensures.rule) c.arg-5.ensures
