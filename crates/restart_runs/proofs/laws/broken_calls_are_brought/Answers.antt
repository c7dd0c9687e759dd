use Rattle.restart_runs.proofs.BrokenLemmas.{broken_brought}
use Rattle.restart_runs.proofs.laws.broken_calls_are_brought.Goals as goal

pub returns : goal.returns
returns c = broken_brought
