use Rattle.turn_laws.proofs.LazyLemmas.{lazy_front}
use Rattle.turn_laws.proofs.modes.fronts_are_lazy.Goals as goal

pub returns : goal.returns
returns c = lazy_front
