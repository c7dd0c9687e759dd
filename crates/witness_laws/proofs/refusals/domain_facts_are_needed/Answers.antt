use Rattle.witness_laws.proofs.RefusalsLemmas.{no_domain_fact}
use Rattle.witness_laws.proofs.refusals.domain_facts_are_needed.Goals as goal

pub returns : goal.returns
returns c = no_domain_fact
