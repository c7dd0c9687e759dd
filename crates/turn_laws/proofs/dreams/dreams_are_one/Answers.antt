use Rattle.turn_laws.proofs.DreamLemmas.{dreams_once}
use Rattle.turn_laws.proofs.dreams.dreams_are_one.Goals as goal

pub returns : goal.returns
returns c = λ limits task before tried uses steps others xs ys first second.
    dreams_once limits task before tried uses steps others xs ys first second
