use Rattle.restart_host.proofs.inner.+fetch.Given as goal

abbrev pub decreases-fetch : goal.decreases-fetch
decreases-fetch g l = l.left.now
