use Rattle.table_laws.proofs.UnderLemmas.{above_closed}
use Rattle.table_laws.proofs.laws.types_are_closed.Goals as goal

pub returns : goal.returns
returns c = above_closed
