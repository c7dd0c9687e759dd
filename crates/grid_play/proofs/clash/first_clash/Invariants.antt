use Rattle.grid_play.specs.Clashes.{LeastBefore}
use Rattle.grid_play.proofs.clash.first_clash.Given as goal

-- the least of the clashes of the blocks so far
abbrev pub invariant-loop-one : goal.invariant-loop-one
invariant-loop-one l = LeastBefore l.grid l.world l.one 0 l.best
