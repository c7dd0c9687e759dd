use Rattle.std.proofs.Common.{◌≡◌, ◌≤◌, take}
use Rattle.task_model.specs.State.{contains, items}
use Rattle.optimal_search.specs.Bounds.{lacking}
use Rattle.optimal_search.proofs.goal.count_missing.Given as goal

-- those of the atoms so far
abbrev pub invariant-loop-atom : goal.invariant-loop-atom
invariant-loop-atom l =
    (l.count ≡ lacking (take l.atom-index (items l.goals)) (contains l.state)) × (l.count ≤ l.atom-index)
