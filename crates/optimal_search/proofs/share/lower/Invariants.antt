use Rattle.std.proofs.Common.{◌≡◌, ◌++◌, map, take, drop}
use Rattle.task_model.specs.State.{contains}
use Rattle.optimal_search.specs.Share.{lowered}
use Rattle.optimal_search.proofs.share.lower.Given as goal

-- those so far are lowered
abbrev pub invariant-loop-share : goal.invariant-loop-share
invariant-loop-share l =
    l.shares ≡ map (lowered (contains l.come) l.most) (take l.share-index l.initial.shares)
    ++ drop l.share-index l.initial.shares
