use Rattle.replay_check.proofs.OneVerdictLemmas.{right_valid}
use Rattle.replay_check.proofs.laws.right_reports_are_valid.Goals as goal

pub returns : goal.returns
returns c = right_valid
