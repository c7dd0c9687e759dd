use Rattle.table_runs.proofs.TabledLemmas.{talked_tabled}
use Rattle.table_runs.proofs.laws.talked_runs_are_tabled.Goals as goal

pub returns : goal.returns
returns c = talked_tabled
