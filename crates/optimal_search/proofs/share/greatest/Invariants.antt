use Rattle.std.proofs.Common.{◌≡◌, take}
use Rattle.task_model.specs.State.{items}
use Rattle.optimal_search.specs.Share.{goals_of}
use Rattle.optimal_search.proofs.share.greatest.Given as goal

-- those of the goal's atoms so far
abbrev pub invariant-loop-atom : goal.invariant-loop-atom
invariant-loop-atom l = goals_of l.shares.items ≡ take l.atom-index (items l.goals)
