use Rattle.std.proofs.Common.{◌≤◌, length, ap, arith}
use Rattle.grid_play.proofs.ClashLemmas.{least_all}
use Rattle.grid_play.proofs.clash.first_clash.Goals as goal

pub returns : goal.returns
returns c =
    let all : length c.args.grid.now.blocks ≤ c.loop-one.one = omega (arith, ap length c.blocks-one-end.ensures) in
    least_all c.args.grid.now c.args.world.now c.loop-one.one c.loop-one.best all c.loop-one.invariant
