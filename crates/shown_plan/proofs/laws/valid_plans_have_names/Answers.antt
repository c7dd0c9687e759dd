use Rattle.shown_plan.proofs.ShownLemmas.{valid_named}
use Rattle.shown_plan.proofs.laws.valid_plans_have_names.Goals as goal

pub returns : goal.returns
returns c = λ task known steps cost coherent valid. valid_named task known coherent steps cost valid
