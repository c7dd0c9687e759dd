use Rattle.std.proofs.Common.{◌+◌, refl, sym, subst, arith}
use Rattle.std.proofs.lemmas.Option.{slice_get_within}
use Rattle.grounder.specs.Applicable.{IsApplicable}
use Rattle.lemmas.proofs.ListTests.{get_some}
use Rattle.optimal_search.proofs.RelaxLemmas.{bound_along, old_within, relaxed_more, relaxed_new, relaxed_old, room}
use Rattle.optimal_search.proofs.relax.relax.Goals as goal

pub arrive-requires-clause-can : goal.arrive-requires-clause-can
arrive-requires-clause-can g c =
    let scene = c.args.scene.now in
    let from = c.args.from.now in
    subst (IsApplicable scene.task.now (g.L.Look.known scene.look.now) from.state) (sym c.index-step.ensures)
    (c.requires.expanding.steps.each c.args.index c.index-step.result.now (omega (arith, c.requires.there, from.steps.ok.0)))

pub overflow_add-cost : goal.overflow_add-cost
overflow_add-cost g c =
    let scene = c.args.scene.now in
    let large =
    room scene.task.now (g.L.Look.known scene.look.now) (g.C.Consistent.bound c.args.estimate.now) scene.limit c.args.search.now
    c.args.from.now c.args.index c.requires.expanding in
    omega (arith, large.1, c.in_ok-arrival.ensures.small)

pub lower-requires-clause-there : goal.lower-requires-clause-there
lower-requires-clause-there g c =
    let scene = c.args.scene.now in
    let search = c.args.search.now in
    omega (
      arith,
      old_within scene.task.now (g.L.Look.known scene.look.now) (g.C.Consistent.bound c.args.estimate.now) scene.limit search
          c.args.from.now c.args.index c.index-step.result.now c.arrive.new.store c.in_ok-arrival.arrival c.requires.expanding
          c.in_ok-arrival.ensures c.if-not-arrival.true,
      search.agenda.nodes.ok.0,
    )

pub returns-then-not-arrival-clause-goes : goal.returns-then-not-arrival-clause-goes
returns-then-not-arrival-clause-goes g c =
    let scene = c.args.scene.now in
    let from = c.args.from.now in
    let step = c.index-step.result.now in
    let at = get_some from.steps.items c.args.index step (omega (arith, c.requires.there, from.steps.ok.0)) c.index-step.ensures in
    relaxed_old scene.task.now (g.L.Look.known scene.look.now) (g.C.Consistent.bound c.args.estimate.now) scene.limit
    c.args.search.now from c.args.index step c.arrive.new.store c.in_ok-arrival.arrival c.in_ok-link.link c.requires.expanding at
    c.in_ok-arrival.ensures c.in_ok-link.ensures c.lower.new.self c.if-not-arrival.true c.in_ok-lower.ensures.agenda
    c.in_ok-lower.ensures.nodes

pub returns-then-arrival-scene-clause-goes : goal.returns-then-arrival-scene-clause-goes
returns-then-arrival-scene-clause-goes g c =
    let scene = c.args.scene.now in
    let from = c.args.from.now in
    let step = c.index-step.result.now in
    let arrival = c.in_ok-arrival.arrival in
    let at = get_some from.steps.items c.args.index step (omega (arith, c.requires.there, from.steps.ok.0)) c.index-step.ensures in
    relaxed_more scene.task.now (g.L.Look.known scene.look.now) (g.C.Consistent.bound c.args.estimate.now) scene.limit
    c.args.search.now from c.args.index step c.arrive.new.store arrival
    (record { parent = from.number; step = step; cost = arrival.cost }) c.requires.expanding at c.in_ok-arrival.ensures refl
    c.if-not-arrival.false c.if-arrival-scene.true

pub left_at-requires-clause-there : goal.left_at-requires-clause-there
left_at-requires-clause-there g c =
    let arrives = c.in_ok-arrival.ensures in
    slice_get_within c.arrive.new.store c.in_ok-arrival.arrival.place arrives.after arrives.there

pub returns-clause-goes : goal.returns-clause-goes
returns-clause-goes g c =
    let scene = c.args.scene.now in
    let task = scene.task.now in
    let known = g.L.Look.known scene.look.now in
    let bound = g.C.Consistent.bound c.args.estimate.now in
    let search = c.args.search.now in
    let from = c.args.from.now in
    let step = c.index-step.result.now in
    let arrival = c.in_ok-arrival.arrival in
    let arrives = c.in_ok-arrival.ensures in
    let link = c.in_ok-link-2.field-0 in
    let at = get_some from.steps.items c.args.index step (omega (arith, c.requires.there, from.steps.ok.0)) c.index-step.ensures in
    bound_along task known scene.limit _ from (c.args.index + 1) bound (g.C.Consistent.bound c.left_at.new.estimate)
    c.left_at.ensures.same
    (relaxed_new task known bound scene.limit search from c.args.index step c.arrive.new.store arrival link c.requires.expanding at
    arrives c.in_ok-link-2.ensures c.add.new.self _ c.if-not-arrival.false c.if-arrival-scene.false c.in_ok-add.ensures.agenda
    c.in_ok-add.ensures.nodes refl (c.in_ok-left.ensures.is arrives.after arrives.there) refl)
