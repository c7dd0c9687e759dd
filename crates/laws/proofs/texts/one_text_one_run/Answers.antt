use Rattle.laws.proofs.TextOneLemmas.{one_run}
use Rattle.laws.proofs.texts.one_text_one_run.Goals as goal

pub returns : goal.returns
returns c = one_run
