use Rattle.laws.proofs.GridStreamLemmas.{made_have_streams}
use Rattle.laws.proofs.grids.grid_tasks_have_streams.Goals as goal

pub returns : goal.returns
returns c = made_have_streams
