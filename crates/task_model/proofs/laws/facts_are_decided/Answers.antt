use Rattle.task_model.proofs.KnownLemmas.{fact_member}
use Rattle.task_model.proofs.laws.facts_are_decided.Goals as goal

pub returns : goal.returns
returns c = fact_member
