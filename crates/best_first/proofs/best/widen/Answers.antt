use Rattle.std.proofs.Common.{◌∷◌, arith, refl, subst}
use Rattle.std.specs.BinaryHeap.{heap_items}
use Rattle.lemmas.proofs.Bools.{not_both}
use Rattle.lemmas.proofs.ListTests.{one_there}
use Rattle.task_model.specs.Plans.{IsGoal}
use Rattle.best_first.proofs.FrontiersLemmas.{widened_met, widened_pushed}
use Rattle.best_first.specs.Frontiers.{in_heap}
use Rattle.best_first.proofs.best.widen.Goals as goal

pub returns-then-meets_goal-clause-spreads : goal.returns-then-meets_goal-clause-spreads
returns-then-meets_goal-clause-spreads g c =
    let scene = c.args.scene.now in
    let known = g.L.Look.known scene.look.now in
    let old = c.args.frontier.now in
    widened_met scene.task.now known scene.limit old.tree.store old.tree.links.items (in_heap c.args.from ∷ heap_items old.queue)
    c.args.place c.args.cost c.requires.widened
    (λ s at. subst (IsGoal scene.task.now known) (one_there old.tree.store c.args.place c.in_ok-state.state s c.in_ok-state.ensures at)
    (c.meets_goal.ensures.0 c.if-meets_goal.true))

pub returns-clause-spreads : goal.returns-clause-spreads
returns-clause-spreads g c =
    let scene = c.args.scene.now in
    let known = g.L.Look.known scene.look.now in
    let old = c.args.frontier.now in
    widened_pushed scene.task.now known scene.limit old.tree.store old.tree.links.items (in_heap c.args.from) (heap_items old.queue)
    c.args.place c.args.cost c.requires.widened _ (heap_items c.push.new.self) c.in_ok-push.ensures.permutation refl (omega arith)
    (λ s at met. not_both _ (c.meets_goal.ensures.1
    (subst (IsGoal scene.task.now known) (one_there old.tree.store c.args.place s c.in_ok-state.state at c.in_ok-state.ensures) met))
    c.if-meets_goal.false)
