use Rattle.restart_host.proofs.inner.+revive.Given as goal

abbrev pub decreases-revive : goal.decreases-revive
decreases-revive g l = l.left.now
