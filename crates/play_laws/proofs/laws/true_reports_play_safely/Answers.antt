use Rattle.play_laws.proofs.SafeLemmas.{true_reports_play_safely}
use Rattle.play_laws.proofs.laws.true_reports_play_safely.Goals as goal

pub returns : goal.returns
returns c = true_reports_play_safely
