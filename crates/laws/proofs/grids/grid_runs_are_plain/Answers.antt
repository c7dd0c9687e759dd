use Rattle.laws.proofs.GridMadeLemmas.{made_plain}
use Rattle.laws.proofs.grids.grid_runs_are_plain.Goals as goal

pub returns : goal.returns
returns c = made_plain
