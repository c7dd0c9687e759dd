use Rattle.table_runs.proofs.AskingNameLemmas.{names_printed}
use Rattle.table_runs.proofs.laws.names_are_printed.Goals as goal

pub returns : goal.returns
returns c = names_printed
