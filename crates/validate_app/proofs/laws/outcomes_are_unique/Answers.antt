use Rattle.validate_app.proofs.OneOutcomeLemmas.{one_outcome}
use Rattle.validate_app.proofs.laws.outcomes_are_unique.Goals as goal

pub returns : goal.returns
returns c = one_outcome
