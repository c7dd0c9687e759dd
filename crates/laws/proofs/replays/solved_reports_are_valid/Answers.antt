use Rattle.laws.proofs.SolvedLemmas.{solved_valid}
use Rattle.laws.proofs.replays.solved_reports_are_valid.Goals as goal

pub returns : goal.returns
returns c = solved_valid
