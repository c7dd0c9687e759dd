use Rattle.best_first.proofs.ExploredLemmas.{IsExpanding}
use Rattle.best_first.proofs.expand.visit_all.Given as goal

-- the steps that were passed lead to states that are there
abbrev pub invariant-loop-step : goal.invariant-loop-step
invariant-loop-step g l =
    IsExpanding l.scene.task.now (g.L.Look.known l.scene.look.now) l.scene.seeks_goal l.scene.limit l.tree.store l.tree.links.items l.from
    l.state l.steps l.step-index
