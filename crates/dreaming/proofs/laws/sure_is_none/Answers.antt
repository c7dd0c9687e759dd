use Rattle.dreaming.proofs.DreamlessLemmas.{surely_none}
use Rattle.dreaming.proofs.laws.sure_is_none.Goals as goal

pub returns : goal.returns
returns c = surely_none
