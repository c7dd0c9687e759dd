use Rattle.std.proofs.Common.{ap, ◌∙◌, slice_get}
use Rattle.std.specs.Option.{option_and_then}
use Rattle.validate_app.proofs.step.action_called.Goals as goal

pub returns-in-Some : goal.returns-in-Some
returns-in-Some c =
    c.action_at.ensures ∙ ap (option_and_then (slice_get c.args.task.now.domain.actions)) c.in-Some.ensures

pub returns-in-None : goal.returns-in-None
returns-in-None c = ap (option_and_then (slice_get c.args.task.now.domain.actions)) c.in-None.ensures
