use Rattle.task_model.proofs.KnownLemmas.{with_facts-is}
use Rattle.task_model.proofs.laws.facts_stay_distinct.Goals as goal

pub returns : goal.returns
returns c = with_facts-is
