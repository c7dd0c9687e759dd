use Rattle.std.proofs.Common.{◌≡◌, drop}
use Rattle.instance_queue.specs.Level.{due_instances}
use Rattle.pools.specs.Pools.{shares_of}
use Rattle.transcript_model.specs.Rounds.{fits}
use Rattle.pools.proofs.front.fits.Given as goal

-- what is left decides
abbrev pub invariant-loop-pool : goal.invariant-loop-pool
invariant-loop-pool l =
    fits (shares_of (drop l.pool-index l.pools)) (due_instances l.dues) ≡ fits (shares_of l.pools) (due_instances l.dues)
