use Rattle.grid_play.specs.Clashes.{LeastBefore}
use Rattle.grid_play.proofs.clash.with_clashes_of.Given as goal

-- the least so far
abbrev pub invariant-loop-other : goal.invariant-loop-other
invariant-loop-other l = LeastBefore l.grid l.world l.one l.other l.best
