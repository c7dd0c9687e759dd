use Rattle.transcript_model.proofs.LegalNumberLemmas.{numbers_own}
use Rattle.transcript_model.proofs.laws.numbers_are_own.Goals as goal

pub returns : goal.returns
returns c = numbers_own
