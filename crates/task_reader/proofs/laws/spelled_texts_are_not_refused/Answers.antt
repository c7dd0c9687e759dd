use Rattle.task_reader.proofs.SpelledLemmas.{task_not_refused}
use Rattle.task_reader.proofs.laws.spelled_texts_are_not_refused.Goals as goal

pub returns : goal.returns
returns c = task_not_refused
