use Rattle.turn_laws.proofs.PlainSaidLemmas.{knows_same}
use Rattle.turn_laws.proofs.plain.said_is_known.Goals as goal

pub returns : goal.returns
returns c = λ task entries others same. knows_same task entries others same.asks same.answers
