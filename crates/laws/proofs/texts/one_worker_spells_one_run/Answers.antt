use Rattle.laws.proofs.SpelledRunLemmas.{one_spelled}
use Rattle.laws.proofs.texts.one_worker_spells_one_run.Goals as goal

pub returns : goal.returns
returns c = one_spelled
