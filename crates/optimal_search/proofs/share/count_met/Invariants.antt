use Rattle.std.proofs.Common.{◌≡◌, ◌≤◌, take}
use Rattle.task_model.specs.State.{contains}
use Rattle.optimal_search.specs.Share.{met}
use Rattle.optimal_search.proofs.share.count_met.Given as goal

-- those of the atoms so far
abbrev pub invariant-loop-share : goal.invariant-loop-share
invariant-loop-share l =
    (l.count ≡ met (take l.share-index l.shares) (contains l.come)) × (l.count ≤ l.share-index)
