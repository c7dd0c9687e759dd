use Rattle.restart_runs.proofs.OuterLemmas.{outer_tabled}
use Rattle.restart_runs.proofs.laws.outer_runs_are_tabled.Goals as goal

pub returns : goal.returns
returns c = outer_tabled
