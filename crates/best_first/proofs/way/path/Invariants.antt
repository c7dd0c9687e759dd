use Rattle.std.proofs.Common.{◌+◌, ◌*◌, ◌≤◌, length, reverse}
use Rattle.best_first.specs.Links.{FollowsLink}
use Rattle.best_first.proofs.way.path.Given as goal

-- the steps so far, turned round, lead from here to the last state
abbrev pub invariant-loop-at : goal.invariant-loop-at
invariant-loop-at l =
    FollowsLink l.links l.at (reverse l.steps.items) (length l.links) l.cost
    × (l.at ≤ length l.links) × (l.cost + 262144000000 * l.at ≤ 262144000000 * length l.links)

abbrev pub decreases-loop-at : goal.decreases-loop-at
decreases-loop-at l = l.at
