use Rattle.task_model.proofs.StepsLemmas.{parts_of_whole, whole_of_parts}
use Rattle.task_model.proofs.laws.parts_make_the_whole.Goals as goal

pub returns : goal.returns
returns c =
    λ task known before after first second total.
    (parts_of_whole task known before after first second total, whole_of_parts task known before after first second total)
