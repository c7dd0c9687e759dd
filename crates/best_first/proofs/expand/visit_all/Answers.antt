use Rattle.std.proofs.Common.{sym, subst, arith}
use Rattle.lemmas.proofs.ListTests.{get_some}
use Rattle.grounder.specs.Applicable.{IsApplicable}
use Rattle.best_first.specs.Explored.{IsExplored, Comes}
use Rattle.best_first.proofs.ExploredLemmas.{expanding_start, expanding_next, expanding_done}
use Rattle.best_first.proofs.expand.visit_all.Goals as goal

pub loop-step-init : goal.loop-step-init
loop-step-init g c =
    let scene = c.args.scene.now in
    expanding_start scene.task.now (g.L.Look.known scene.look.now) scene.seeks_goal scene.limit c.args.tree.now.store
    c.args.tree.now.links.items c.args.from c.args.state.now c.args.steps.now c.requires.explored c.requires.here

pub visit-requires-clause-can : goal.visit-requires-clause-can
visit-requires-clause-can g c =
    let scene = c.args.scene.now in
    subst (IsApplicable scene.task.now (g.L.Look.known scene.look.now) c.args.state.now)
    (sym c.step-item.is) (c.requires.steps.each c.loop-step.step-index c.step-item.result c.loop-step-test.true)

pub loop-step-preserved : goal.loop-step-preserved
loop-step-preserved g c =
    let scene = c.args.scene.now in
    let known = g.L.Look.known scene.look.now in
    let at = get_some c.args.steps.now c.loop-step.step-index c.step-item.result c.loop-step-test.true c.step-item.is in
    let e : IsExplored scene.task.now known scene.seeks_goal scene.limit c.visit.new.tree.store c.visit.new.tree.links.items c.args.from =
    subst (Comes scene.task.now known scene.seeks_goal scene.limit c.visit.new.tree.store c.visit.new.tree.links.items c.args.from)
    c.in-On.is c.in_ok-visit.ensures.comes in
    expanding_next scene.task.now known scene.seeks_goal scene.limit c.loop-step.tree.store c.loop-step.tree.links.items c.args.from
    c.args.state.now c.args.steps.now c.loop-step.step-index c.visit.new.tree.store c.visit.new.tree.links.items c.step-item.result
    c.loop-step.invariant at e c.in_ok-visit.ensures.leads

pub returns : goal.returns
returns g c =
    let scene = c.args.scene.now in
    expanding_done scene.task.now (g.L.Look.known scene.look.now) scene.seeks_goal scene.limit c.loop-step.tree.store
    c.loop-step.tree.links.items c.args.from c.args.state.now c.args.steps.now c.loop-step.step-index c.loop-step.invariant
    (omega arith) c.requires.steps
