use Rattle.table_runs.proofs.TabledLemmas.{workers_matter_not}
use Rattle.table_runs.proofs.laws.workers_do_not_matter.Goals as goal

pub returns : goal.returns
returns c = workers_matter_not
