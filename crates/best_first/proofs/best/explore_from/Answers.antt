use Rattle.std.proofs.Common.{◌≡◌, ◌∷◌, [], true, refl, sym, ap, subst, arith, Some, slice_get}
use Rattle.std.specs.BinaryHeap.{heap_items}
use Rattle.lemmas.proofs.Bools.{not_both}
use Rattle.lemmas.proofs.ListTests.{one_there}
use Rattle.task_model.specs.Initial.{initial_state}
use Rattle.task_model.specs.Plans.{IsGoal}
use Rattle.best_first.proofs.ExploredLemmas.{met_at_start}
use Rattle.best_first.proofs.FrontiersLemmas.{frontier_begun, frontier_closed, frontier_permuted}
use Rattle.best_first.specs.Explored.{IsMet}
use Rattle.best_first.specs.Frontiers.{in_heap}
use Rattle.best_first.proofs.best.explore_from.Goals as goal

pub returns-then-meets_goal : goal.returns-then-meets_goal
returns-then-meets_goal g c =
    let scene = c.args.scene.now in
    let known = g.L.Look.known scene.look.now in
    let tree = c.args.frontier.now.tree in
    let here : slice_get tree.store 0 ≡ Some (initial_state scene.task.now) = ap (λ ss. slice_get ss 0) c.requires.begins.states in
    let first = one_there tree.store 0 c.in_ok-state.state (initial_state scene.task.now) c.in_ok-state.ensures here in
    let met = met_at_start scene.task.now known true scene.limit
    (refl, subst (IsGoal scene.task.now known) first (c.meets_goal.ensures.0 c.if-meets_goal.true)) in
    subst (λ ss. IsMet scene.task.now known true scene.limit ss tree.links.items) (sym c.requires.begins.states)
    (subst (IsMet scene.task.now known true scene.limit (initial_state scene.task.now ∷ [])) (sym c.requires.begins.links) met)

pub turns-init : goal.turns-init
turns-init g c =
    let scene = c.args.scene.now in
    let known = g.L.Look.known scene.look.now in
    let tree = c.args.frontier.now.tree in
    frontier_begun scene.task.now known scene.limit tree.store tree.links.items (heap_items c.args.frontier.now.queue)
    (heap_items c.push.new.self) _
    c.requires.begins.states c.requires.begins.links c.requires.none c.in_ok-push.ensures.permutation refl c.requires.some
    (λ s at met. not_both _ (c.meets_goal.ensures.1
    (subst (IsGoal scene.task.now known) (one_there tree.store 0 s c.in_ok-state.state at c.in_ok-state.ensures) met))
    c.if-meets_goal.false)

pub expand-requires-clause-frontier : goal.expand-requires-clause-frontier
expand-requires-clause-frontier g c =
    let scene = c.args.scene.now in
    let before = c.turns.frontier in
    frontier_permuted scene.task.now (g.L.Look.known scene.look.now) scene.limit before.tree.store before.tree.links.items
    (heap_items before.queue) (in_heap c.in-Some.field-0.0 ∷ heap_items c.pop.new.self) c.in-Some.ensures.permutation
    c.turns.invariant

pub returns-in_default : goal.returns-in_default
returns-in_default g c =
    let scene = c.args.scene.now in
    let last = c.turns.frontier in
    frontier_closed scene.task.now (g.L.Look.known scene.look.now) scene.limit last.tree.store last.tree.links.items
    (heap_items last.queue) (omega (arith, c.in_default.ensures.none, last.queue.data.ok.0)) c.turns.invariant
