use Rattle.laws.proofs.RunFormedReportLemmas.{formed}
use Rattle.laws.proofs.runs.reports_of_runs_are_formed.Goals as goal

pub returns : goal.returns
returns c = λ task head entries o fit can run. formed task head entries o fit can run
