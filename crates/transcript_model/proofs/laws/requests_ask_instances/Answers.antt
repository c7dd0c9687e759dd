use Rattle.transcript_model.proofs.LegalLemmas.{request_asks}
use Rattle.transcript_model.proofs.laws.requests_ask_instances.Goals as goal

pub returns : goal.returns
returns c = request_asks
