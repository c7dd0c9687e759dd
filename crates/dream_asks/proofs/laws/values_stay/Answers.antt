use Rattle.dream_asks.proofs.StayLemmas.{stays}
use Rattle.dream_asks.proofs.laws.values_stay.Goals as goal

pub returns : goal.returns
returns c = stays
