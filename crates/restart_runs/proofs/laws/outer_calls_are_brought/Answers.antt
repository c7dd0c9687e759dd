use Rattle.restart_runs.proofs.OuterLemmas.{outer_brought}
use Rattle.restart_runs.proofs.laws.outer_calls_are_brought.Goals as goal

pub returns : goal.returns
returns c = outer_brought
