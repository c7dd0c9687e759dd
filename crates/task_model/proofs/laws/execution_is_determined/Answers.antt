use Rattle.task_model.proofs.StepsLemmas.{execution_determined}
use Rattle.task_model.proofs.laws.execution_is_determined.Goals as goal

pub returns : goal.returns
returns c = execution_determined
