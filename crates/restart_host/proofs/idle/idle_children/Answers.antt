use Rattle.std.proofs.Common.{ap, arith, length, length-append, subst, sym}
use Rattle.restart_host.specs.Kept.{AreIdle}
use Rattle.restart_host.proofs.ChildrenLemmas.{idle_more}
use Rattle.restart_host.proofs.idle.idle_children.Goals as goal

pub loop-alloc-preserved : goal.loop-alloc-preserved
loop-alloc-preserved c = record {
  few = omega (arith, simp length-append at (ap length c.in_ok-push.ensures.items), c.loop-alloc.children.ok.0);
  idle = subst AreIdle (sym c.in_ok-push.ensures.items)
      (idle_more c.loop-alloc.children.items c.in_ok-kept.kept c.loop-alloc.invariant.idle c.in_ok-kept.ensures.0
      c.in_ok-kept.ensures.1);
}
