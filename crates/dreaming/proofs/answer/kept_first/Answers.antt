use Rattle.std.proofs.Common.{◌∙◌, ap}
use Rattle.lemmas.specs.Lists.{numbers_from}
use Rattle.dreaming.proofs.ThinLemmas.{all_kept}
use Rattle.dreaming.proofs.answer.kept_first.Goals as goal

pub returns : goal.returns
returns c =
    all_kept c.args.trial.now.listing.task.now c.args.trial.now.listing.supposed.now c.args.trial.now.plan.now.steps _
    c.requires.trial.listed (c.in_ok-places-in-None.ensures ∙ ap (numbers_from 0) c.len.ensures) c.requires.valid
