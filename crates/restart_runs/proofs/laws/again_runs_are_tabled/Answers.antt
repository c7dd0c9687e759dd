use Rattle.restart_runs.proofs.TabledAgainLemmas.{tabled_again}
use Rattle.restart_runs.proofs.laws.again_runs_are_tabled.Goals as goal

pub returns : goal.returns
returns c = tabled_again
