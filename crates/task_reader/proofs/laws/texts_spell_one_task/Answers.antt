use Rattle.task_reader.proofs.SpelledLemmas.{one_task}
use Rattle.task_reader.proofs.laws.texts_spell_one_task.Goals as goal

pub returns : goal.returns
returns c = one_task
