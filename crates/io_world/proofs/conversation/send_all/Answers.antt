use Rattle.std.proofs.Common.{arith, ◌∙◌}
use Rattle.io_world.proofs.AppendsLemmas.{piece_more, piece_within}
use Rattle.io_world.proofs.TalksLemmas.{writes_more, taken_more}
use Rattle.io_world.proofs.conversation.send_all.Goals as goal

pub loop-done-preserved : goal.loop-done-preserved
loop-done-preserved g c = record {
  within = piece_within _ _ _ c.loop-done.invariant.within c.in_ok-done.ensures.count.1;
  running = λ k. c.in_ok-done.ensures.running k ∙ c.loop-done.invariant.running k;
  spoken = writes_more _ _ _ _ _ _ _ (piece_more _ _ _) c.loop-done.invariant.spoken c.in_ok-done.ensures.spoken;
  log = taken_more _ _ _ _ _ _ _ _ (piece_more _ _ _) c.in_ok-done.ensures.count.0 c.in_ok-done.ensures.count.1 c.loop-done.invariant.log
      c.in_ok-done.ensures.log;
  leads = g.met.H.Host.chains _ _ _ _ c.loop-done.invariant.leads c.in_ok-done.ensures.leads;
  later = omega (arith, c.in_ok-done.ensures.cause.later);
}
