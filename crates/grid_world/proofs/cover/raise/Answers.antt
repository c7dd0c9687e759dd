use Rattle.std.proofs.Common.{arith}
use Rattle.grid_world.proofs.CoversLemmas.{reaches_raised}
use Rattle.grid_world.proofs.cover.raise.Goals as goal

pub returns : goal.returns
returns c column h =
    rw c.max.ensures (reaches_raised c.args.ends.now c.args.begin c.args.end column (omega arith))
