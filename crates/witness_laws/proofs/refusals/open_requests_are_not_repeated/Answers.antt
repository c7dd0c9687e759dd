use Rattle.witness_laws.proofs.RefusalsLemmas.{no_request_again}
use Rattle.witness_laws.proofs.refusals.open_requests_are_not_repeated.Goals as goal

pub returns : goal.returns
returns c = no_request_again
