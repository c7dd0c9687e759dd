use Rattle.dream_asks.proofs.FirstLemmas.{first_sent}
use Rattle.dream_asks.proofs.laws.first_asks_are_sent_first.Goals as goal

pub returns : goal.returns
returns c = first_sent
