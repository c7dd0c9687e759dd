use Rattle.play_laws.proofs.SafeLemmas.{true_plans_are_safe}
use Rattle.play_laws.proofs.laws.true_plans_are_safe.Goals as goal

pub returns : goal.returns
returns c = true_plans_are_safe
