use Rattle.task_reader.proofs.FitTask.{spelled_tasks_fit}
use Rattle.task_reader.proofs.laws.spelled_tasks_are_fit.Goals as goal

pub returns : goal.returns
returns c = spelled_tasks_fit
