use Rattle.witness_laws.proofs.RefusalsLemmas.{levels_ask}
use Rattle.witness_laws.proofs.refusals.levels_ask_for_all.Goals as goal

pub returns : goal.returns
returns c = levels_ask
