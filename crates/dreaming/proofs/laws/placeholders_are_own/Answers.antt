use Rattle.dreaming.proofs.OwnLemmas.{own_names}
use Rattle.dreaming.proofs.laws.placeholders_are_own.Goals as goal

pub returns : goal.returns
returns c = own_names
