use Rattle.grid_world.proofs.CoversLemmas.{reaches_none}
use Rattle.grid_world.proofs.cover.row_cover.Goals as goal

pub loop-obstacle-init : goal.loop-obstacle-init
loop-obstacle-init c column h = reaches_none 1000 column
