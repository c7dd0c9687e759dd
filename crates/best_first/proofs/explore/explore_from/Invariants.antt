use Rattle.std.proofs.Common.{◌-◌}
use Rattle.best_first.specs.Explored.{IsExplored}
use Rattle.best_first.proofs.explore.explore_from.Given as goal

-- the states before the next one were expanded
abbrev pub invariant-loop-next : goal.invariant-loop-next
invariant-loop-next g l =
    IsExplored l.scene.task.now (g.L.Look.known l.scene.look.now) l.scene.seeks_goal l.scene.limit l.tree.store l.tree.links.items l.next

abbrev pub decreases-loop-next : goal.decreases-loop-next
decreases-loop-next g l = l.scene.limit - l.next
