use Rattle.std.proofs.Common.{◌≡◌, drop, max}
use Rattle.optimal_search.specs.Bounds.{widest}
use Rattle.optimal_search.proofs.fewest.widest.Given as goal

-- what the actions that are left may still raise
abbrev pub invariant-loop-action : goal.invariant-loop-action
invariant-loop-action l = max l.width (widest (drop l.action-index l.actions)) ≡ widest l.actions
