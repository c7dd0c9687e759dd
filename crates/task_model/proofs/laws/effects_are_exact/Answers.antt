use Rattle.task_model.proofs.StateLemmas.{contains-changed}
use Rattle.task_model.proofs.laws.effects_are_exact.Goals as goal

pub returns : goal.returns
returns c = λ action args state q. contains-changed state _ _ q
