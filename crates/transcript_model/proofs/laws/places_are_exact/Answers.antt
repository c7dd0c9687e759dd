use Rattle.transcript_model.proofs.CallNameLemmas.{places_exact}
use Rattle.transcript_model.proofs.laws.places_are_exact.Goals as goal

pub returns : goal.returns
returns c = places_exact
