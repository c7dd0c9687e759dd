use Rattle.witness_laws.proofs.LevelLemmas.{first_run}
use Rattle.witness_laws.proofs.laws.the_first_task_is_solved.Goals as goal

pub returns : goal.returns
returns c = first_run
