use Rattle.validate_app.proofs.LawsLemmas.{are_judged}
use Rattle.validate_app.proofs.laws.spelled_plans_are_judged.Goals as goal

pub returns : goal.returns
returns c = are_judged
