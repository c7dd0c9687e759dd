use Rattle.laws.proofs.GridOneChildLemmas.{one_child}
use Rattle.laws.proofs.grids.made_runs_ask_one_child.Goals as goal

pub returns : goal.returns
returns c = one_child
