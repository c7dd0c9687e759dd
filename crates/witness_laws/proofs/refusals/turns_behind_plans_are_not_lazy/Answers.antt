use Rattle.witness_laws.proofs.RefusalsLemmas.{not_lazy}
use Rattle.witness_laws.proofs.refusals.turns_behind_plans_are_not_lazy.Goals as goal

pub returns : goal.returns
returns c = not_lazy
