use Rattle.std.proofs.Common.{arith}
use Rattle.io_world.proofs.AppendsLemmas.{grown, piece_more, piece_within}
use Rattle.io_world.proofs.whole_writes.write_all.Goals as goal

pub loop-done-preserved : goal.loop-done-preserved
loop-done-preserved g c = record {
  within = piece_within _ _ _ c.loop-done.invariant.within c.in_ok-done.ensures.count.1;
  taken =
      grown _ _ _ _ _ _ (piece_more _ _ _) c.loop-done.invariant.taken c.in_ok-done.ensures.bytes;
  later = omega (arith, c.in_ok-done.ensures.cause.later);
}
