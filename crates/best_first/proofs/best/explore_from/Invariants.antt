use Rattle.std.specs.BinaryHeap.{heap_items}
use Rattle.best_first.specs.Frontiers.{IsFrontier}
use Rattle.best_first.proofs.best.explore_from.Given as goal

-- each state is open or was expanded
abbrev pub invariant-turns : goal.invariant-turns
invariant-turns g l =
    IsFrontier l.scene.task.now (g.L.Look.known l.scene.look.now) l.scene.limit l.frontier.tree.store l.frontier.tree.links.items
    (heap_items l.frontier.queue)
