use Rattle.std.proofs.Common.{sym, subst}
use Rattle.best_first.proofs.ExploredLemmas.{on_ok}
use Rattle.best_first.proofs.TreesLemmas.{grows_leads}
use Rattle.best_first.specs.Explored.{GrowsByStep, LeadsToState}
use Rattle.best_first.proofs.best.visit.Goals as goal

pub widen-requires-clause-widened : goal.widen-requires-clause-widened
widen-requires-clause-widened g c =
    let scene = c.args.scene.now in
    let old = c.args.frontier.now.tree in
    let new = c.grow.new.tree in
    record {
      before = old.store;
      earlier = old.links.items;
      frontier = c.requires.frontier;
      from = c.args.from.place;
      source = c.args.state.now;
      step = c.args.step.now;
      here = c.requires.here;
      added = subst
          (GrowsByStep scene.task.now (g.L.Look.known scene.look.now) old.store old.links.items c.args.from.place c.args.state.now
          c.args.step.now new.store new.links.items) c.in-Some.is c.in_ok-place.ensures;
    }

pub returns-in-Some-clause-leads : goal.returns-in-Some-clause-leads
returns-in-Some-clause-leads g c =
    let scene = c.args.scene.now in
    let known = g.L.Look.known scene.look.now in
    let old = c.args.frontier.now.tree in
    let new = c.grow.new.tree in
    on_ok c.widen.result
    (subst (LeadsToState scene.task.now known old.store c.args.state.now c.args.step.now) (sym c.widen.ensures.same)
    (grows_leads scene.task.now known old.store old.links.items c.args.from.place c.args.state.now c.args.step.now new.store
    new.links.items c.in_ok-place.field-0 c.in_ok-place.ensures))

pub returns-in-None-clause-leads : goal.returns-in-None-clause-leads
returns-in-None-clause-leads g c =
    let scene = c.args.scene.now in
    let old = c.args.frontier.now.tree in
    let new = c.grow.new.tree in
    grows_leads scene.task.now (g.L.Look.known scene.look.now) old.store old.links.items c.args.from.place c.args.state.now
    c.args.step.now new.store new.links.items c.in_ok-place.field-0 c.in_ok-place.ensures
