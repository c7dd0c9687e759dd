use Rattle.turn_laws.proofs.ModesLemmas.{as_family, of_mode}
use Rattle.turn_laws.proofs.modes.turns_are_of_the_mode.Goals as goal

pub returns : goal.returns
returns c = λ mode limits task entries stage. (of_mode mode limits task entries stage, as_family mode limits task entries stage)
