use Rattle.std.proofs.Common.{refl, subst}
use Rattle.best_first.proofs.ExploredLemmas.{on_ok}
use Rattle.best_first.proofs.TreesLemmas.{grows_leads}
use Rattle.best_first.specs.Explored.{GrowsByStep, IsAdded}
use Rattle.best_first.proofs.expand.visit.Goals as goal

pub settle-requires-clause-grown : goal.settle-requires-clause-grown
settle-requires-clause-grown g c =
    let scene = c.args.scene.now in
    let known = g.L.Look.known scene.look.now in
    let old = c.args.tree.now in
    let new = c.grow.new.tree in
    let cost = c.in-Some.field-0-1 in
    let added : IsAdded scene.task.now known old.store old.links.items c.args.from c.args.state.now c.args.step.now new.store
    new.links.items c.in-Some.id cost =
    subst
    (GrowsByStep scene.task.now known old.store old.links.items c.args.from c.args.state.now c.args.step.now new.store new.links.items)
    c.in-Some.is c.in_ok-id.ensures in
    record {
      before = old.store;
      earlier = old.links.items;
      source = c.args.state.now;
      after = added.after;
      link = record { parent = c.args.from; step = c.args.step.now; cost = cost };
      explored = c.requires.explored;
      here = c.requires.here;
      parent = refl;
      step = added.leads;
      small = added.small;
      fresh = added.fresh;
      states_are = added.states_are;
      links_are = added.links_are;
      place = added.place;
    }

pub returns-in-Some-clause-leads : goal.returns-in-Some-clause-leads
returns-in-Some-clause-leads g c =
    let scene = c.args.scene.now in
    let old = c.args.tree.now in
    let new = c.grow.new.tree in
    on_ok c.settle.result
    (grows_leads scene.task.now (g.L.Look.known scene.look.now) old.store old.links.items c.args.from c.args.state.now c.args.step.now
    new.store new.links.items c.in_ok-id.field-0 c.in_ok-id.ensures)

pub returns-in-None-clause-leads : goal.returns-in-None-clause-leads
returns-in-None-clause-leads g c =
    let scene = c.args.scene.now in
    let old = c.args.tree.now in
    let new = c.grow.new.tree in
    grows_leads scene.task.now (g.L.Look.known scene.look.now) old.store old.links.items c.args.from c.args.state.now c.args.step.now
    new.store new.links.items c.in_ok-id.field-0 c.in_ok-id.ensures
