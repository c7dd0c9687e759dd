use Rattle.std.proofs.Common.{[], refl}
use Rattle.std.proofs.lemmas.Result.{IfOk-weaker}
use Rattle.std.specs.Prelude.{IfSome}
use Rattle.dreaming.proofs.TriedLemmas.{tried_first}
use Rattle.dreaming.specs.Thinning.{TrialKeeps, IsTried}
use Rattle.dreaming.proofs.trial.kept_of.Goals as goal

pub returns : goal.returns
returns c =
    let t = c.args.trial.now in
    let places = c.args.places.now in
    IfOk-weaker c.kept_with.result (IsTried t [] places) (λ found. IfSome found (TrialKeeps t))
    (tried_first t.listing.task.now t.listing.supposed.now t.plan.now.steps [] places refl c.requires.below c.requires.ascend)
    c.kept_with.ensures
