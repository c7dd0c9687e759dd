use Rattle.shown_plan.proofs.ShownLemmas.{true_outcome}
use Rattle.shown_plan.proofs.laws.shown_plans_are_true.Goals as goal

pub returns : goal.returns
returns c = λ limits task entries steps cost o shown valid. true_outcome limits task entries steps cost o shown valid
