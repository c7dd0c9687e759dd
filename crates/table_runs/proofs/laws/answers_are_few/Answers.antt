use Rattle.table_runs.proofs.AnswersLemmas.{answers_few}
use Rattle.table_runs.proofs.laws.answers_are_few.Goals as goal

pub returns : goal.returns
returns c = answers_few
