use Rattle.witness_laws.proofs.RefusalsLemmas.{no_greater_cost}
use Rattle.witness_laws.proofs.refusals.greater_costs_are_false.Goals as goal

pub returns : goal.returns
returns c = no_greater_cost
