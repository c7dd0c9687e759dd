use Rattle.laws.proofs.GridTalkLemmas.{grid_talks}
use Rattle.laws.proofs.grids.grid_talks_are_the_grid.Goals as goal

pub returns : goal.returns
returns c = grid_talks
