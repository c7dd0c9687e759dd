use Rattle.restart_runs.proofs.TabledAgainLemmas.{restarts_change}
use Rattle.restart_runs.proofs.laws.restarts_change_nothing.Goals as goal

pub returns : goal.returns
returns c = restarts_change
