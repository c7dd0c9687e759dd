use Rattle.transcript_model.proofs.LegalLemmas.{grows}
use Rattle.transcript_model.proofs.laws.legal_grows.Goals as goal

pub returns : goal.returns
returns c = grows
