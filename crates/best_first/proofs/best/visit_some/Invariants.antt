use Rattle.std.specs.BinaryHeap.{heap_items}
use Rattle.best_first.proofs.FrontiersLemmas.{IsVisiting}
use Rattle.best_first.proofs.best.visit_some.Given as goal

-- the steps that were passed lead to states that are there, if none was left for later
abbrev pub invariant-loop-index : goal.invariant-loop-index
invariant-loop-index g l =
    IsVisiting l.scene.task.now (g.L.Look.known l.scene.look.now) l.scene.limit l.frontier.tree.store l.frontier.tree.links.items
    (heap_items l.frontier.queue) l.from l.state l.steps l.all l.index
