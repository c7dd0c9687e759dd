use Rattle.witness_laws.proofs.RefusalsLemmas.{no_round_of_one}
use Rattle.witness_laws.proofs.refusals.rounds_are_full.Goals as goal

pub returns : goal.returns
returns c = no_round_of_one
