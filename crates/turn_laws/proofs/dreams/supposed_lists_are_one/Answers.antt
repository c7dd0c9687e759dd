use Rattle.turn_laws.proofs.DreamListLemmas.{supposed_once}
use Rattle.turn_laws.proofs.dreams.supposed_lists_are_one.Goals as goal

pub returns : goal.returns
returns c = λ task known notes tried depth xs ys first second. supposed_once task known notes tried depth xs ys first second
