use Rattle.std.proofs.Common.{◌≡◌, ◌≤◌, drop, min}
use Rattle.optimal_search.specs.Bounds.{least_own}
use Rattle.optimal_search.proofs.fewest.least_cost.Given as goal

-- what the actions that are left may still lower
abbrev pub invariant-loop-action : goal.invariant-loop-action
invariant-loop-action l =
    (min l.least (least_own (drop l.action-index l.task.domain.actions)) ≡ least_own l.task.domain.actions)
    × (l.least ≤ 262144000000)
