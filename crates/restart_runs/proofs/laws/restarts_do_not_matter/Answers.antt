use Rattle.restart_runs.proofs.TabledAgainLemmas.{restarts_matter_not}
use Rattle.restart_runs.proofs.laws.restarts_do_not_matter.Goals as goal

pub returns : goal.returns
returns c = restarts_matter_not
