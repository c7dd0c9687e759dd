use Rattle.table_runs.proofs.ServedLemmas.{go_to_pools}
use Rattle.table_runs.proofs.laws.requests_go_to_pools.Goals as goal

pub returns : goal.returns
returns c = λ task head entries stage fit able legal turns resting. go_to_pools task head entries stage fit able legal turns resting
