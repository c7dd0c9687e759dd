use Rattle.replay_check.proofs.OneVerdictLemmas.{verdict_once}
use Rattle.replay_check.proofs.laws.verdicts_are_unique.Goals as goal

pub returns : goal.returns
returns c = verdict_once
