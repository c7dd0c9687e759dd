use Rattle.shown_plan.proofs.ShownLemmas.{valid_named}
use Rattle.dreaming.proofs.answer.thinned.Goals as goal

pub shown-requires-clause-steps : goal.shown-requires-clause-steps
shown-requires-clause-steps c =
    valid_named c.args.task.now c.args.supposed.now.known c.args.supposed.now.coherent c.args.plan.steps c.args.cost c.requires.valid
