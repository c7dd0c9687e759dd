use Rattle.std.proofs.Common.{◌≡◌, take, true}
use Rattle.instance_queue.specs.Level.{due_instances}
use Rattle.pools.specs.Pools.{shares_of}
use Rattle.transcript_model.specs.Rounds.{fits}
use Rattle.pools.proofs.front.longest_front.Given as goal

-- the asks that were passed fit
abbrev pub invariant-loop-count : goal.invariant-loop-count
invariant-loop-count l = fits (shares_of l.pools) (due_instances (take l.count l.dues)) ≡ true
