use Rattle.witness_laws.proofs.RefusalsLemmas.{no_placeholder}
use Rattle.witness_laws.proofs.refusals.placeholders_make_no_plan.Goals as goal

pub returns : goal.returns
returns c = no_placeholder
