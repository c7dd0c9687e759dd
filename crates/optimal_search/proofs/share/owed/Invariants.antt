use Rattle.std.proofs.Common.{◌≡◌, ◌+◌, ◌*◌, ◌≤◌, ◌^◌, drop}
use Rattle.task_model.specs.State.{contains}
use Rattle.optimal_search.specs.Share.{owed}
use Rattle.optimal_search.proofs.share.owed.Given as goal

-- what the atoms that are left may still add
abbrev pub invariant-loop-share : goal.invariant-loop-share
invariant-loop-share l =
    (l.total + owed (drop l.share-index l.shares) (contains l.state) ≡ owed l.shares (contains l.state))
    × (l.total ≤ 2 ^ 64 * l.share-index)
