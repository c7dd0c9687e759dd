use Rattle.turn_laws.proofs.DreamLemmas.{dream_asks}
use Rattle.turn_laws.proofs.dreams.a_dream_asks.Goals as goal

pub returns : goal.returns
returns c = λ limits task before tried uses steps entries number fit legal d.
    dream_asks limits task before tried fit legal uses steps entries number d
