use Rattle.std.proofs.Common.{◌∷◌, sym, subst, refl, arith}
use Rattle.std.specs.BinaryHeap.{heap_items}
use Rattle.lemmas.proofs.ListTests.{get_some}
use Rattle.grounder.specs.Applicable.{IsApplicable}
use Rattle.best_first.proofs.FrontiersLemmas.{IsVisiting, frontier_back, visiting_done, visiting_next, visiting_start}
use Rattle.best_first.specs.Frontiers.{Spreads, in_heap}
use Rattle.best_first.proofs.best.visit_some.Goals as goal

pub loop-index-init : goal.loop-index-init
loop-index-init g c =
    let scene = c.args.scene.now in
    let frontier = c.args.frontier.now in
    visiting_start scene.task.now (g.L.Look.known scene.look.now) scene.limit frontier.tree.store frontier.tree.links.items
    (heap_items frontier.queue) c.args.from c.args.state.now c.args.steps.now c.requires.frontier c.requires.here

pub visit-requires-clause-can : goal.visit-requires-clause-can
visit-requires-clause-can g c =
    let scene = c.args.scene.now in
    subst (IsApplicable scene.task.now (g.L.Look.known scene.look.now) c.args.state.now)
    (sym c.index-steps-index.is)
    (c.requires.steps.each c.loop-index.index c.index-steps-index.result c.loop-index-test.true)

pub returns-then-all : goal.returns-then-all
returns-then-all g c =
    let scene = c.args.scene.now in
    let known = g.L.Look.known scene.look.now in
    let now = c.loop-index.frontier in
    let last =
    subst (λ b. IsVisiting scene.task.now known scene.limit now.tree.store now.tree.links.items (heap_items now.queue) c.args.from
    c.args.state.now c.args.steps.now b c.loop-index.index) c.if-all.true c.loop-index.invariant in
    visiting_done scene.task.now known scene.limit now.tree.store now.tree.links.items (heap_items now.queue) c.args.from
    c.args.state.now c.args.steps.now c.loop-index.index last (omega arith) c.requires.steps

pub returns : goal.returns
returns g c =
    let scene = c.args.scene.now in
    let now = c.loop-index.frontier in
    frontier_back scene.task.now (g.L.Look.known scene.look.now) scene.limit now.tree.store now.tree.links.items
    (heap_items now.queue) (heap_items c.push-2.new.self) c.args.from _ c.loop-index.invariant.frontier refl
    c.in_ok-push-2.ensures.permutation

pub returns-then-is_overtaken : goal.returns-then-is_overtaken
returns-then-is_overtaken g c =
    let scene = c.args.scene.now in
    let known = g.L.Look.known scene.look.now in
    let new = c.visit.new.frontier in
    let spread =
    subst (Spreads scene.task.now known scene.limit new.tree.store new.tree.links.items (in_heap c.args.from ∷ heap_items new.queue))
    c.in-On.is c.in_ok-visit.ensures.spreads in
    frontier_back scene.task.now known scene.limit new.tree.store new.tree.links.items (heap_items new.queue)
    (heap_items c.push.new.self) c.args.from c.args.from spread refl c.in_ok-push.ensures.permutation

pub loop-index-preserved : goal.loop-index-preserved
loop-index-preserved g c =
    let scene = c.args.scene.now in
    let known = g.L.Look.known scene.look.now in
    let before = c.loop-index.frontier in
    let new = c.visit.new.frontier in
    let at =
    get_some c.args.steps.now c.loop-index.index c.index-steps-index.result c.loop-index-test.true c.index-steps-index.is in
    let spread =
    subst (Spreads scene.task.now known scene.limit new.tree.store new.tree.links.items (in_heap c.args.from ∷ heap_items new.queue))
    c.in-On.is c.in_ok-visit.ensures.spreads in
    visiting_next scene.task.now known scene.limit before.tree.store before.tree.links.items (heap_items before.queue) c.args.from
    c.args.state.now c.args.steps.now c.loop-index.all c.loop-index.index new.tree.store new.tree.links.items
    (heap_items new.queue) c.index-steps-index.result c.loop-index.invariant at spread c.in_ok-visit.ensures.leads
