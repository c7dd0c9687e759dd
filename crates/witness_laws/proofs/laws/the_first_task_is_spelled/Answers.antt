use Rattle.witness_laws.proofs.SpelledLemmas.{first_task_spelled}
use Rattle.witness_laws.proofs.laws.the_first_task_is_spelled.Goals as goal

pub returns : goal.returns
returns c = first_task_spelled
