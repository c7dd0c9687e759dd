use Rattle.io_world.proofs.AppendsLemmas.{grown, piece_more, piece_within}
use Rattle.io_world.proofs.held_line.write_whole.Goals as goal

pub loop-done-preserved : goal.loop-done-preserved
loop-done-preserved g c = record {
  within = piece_within _ _ _ c.loop-done.invariant.within c.in-Some.ensures.count.1;
  written =
      grown _ _ _ _ _ _ (piece_more _ _ _) c.loop-done.invariant.written c.in-Some.ensures.bytes;
}
