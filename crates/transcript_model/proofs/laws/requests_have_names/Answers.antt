use Rattle.transcript_model.proofs.CoherentLemmas.{asked_is}
use Rattle.transcript_model.proofs.laws.requests_have_names.Goals as goal

pub returns : goal.returns
returns c = λ version task entries n a fit legal. asked_is version task entries fit legal n a
