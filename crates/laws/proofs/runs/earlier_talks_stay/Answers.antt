use Rattle.laws.proofs.RunEarlierLemmas.{earlier_stay}
use Rattle.laws.proofs.runs.earlier_talks_stay.Goals as goal

pub returns : goal.returns
returns c = earlier_stay
