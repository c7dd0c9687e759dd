use Rattle.transcript_model.proofs.CoherentLemmas.{coherent}
use Rattle.transcript_model.proofs.laws.what_is_known_is_coherent.Goals as goal

pub returns : goal.returns
returns c = coherent
