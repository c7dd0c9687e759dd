use Rattle.witness_laws.proofs.RefusalsLemmas.{no_answer_again}
use Rattle.witness_laws.proofs.refusals.answers_need_open_requests.Goals as goal

pub returns : goal.returns
returns c = no_answer_again
