use Rattle.std.proofs.Common.{◌≡◌, ◌+◌, refl, ap, subst, ◌∙◌, arith, length, length-append, None, [], ◌∷◌}
use Rattle.optimal_search.proofs.TurnsLemmas.{begun, ended, few_taken, taken}
use Rattle.optimal_search.specs.Answer.{Visits}
use Rattle.optimal_search.specs.Searches.{ClosesNext}
use Rattle.optimal_search.proofs.astar.explore.Goals as goal

pub loop-search-init : goal.loop-search-init
loop-search-init g c =
    let scene = c.args.scene.now in
    let made = c.in_ok-search.ensures in (
      begun scene.task.now (g.L.Look.known scene.look.now) (g.C.Consistent.bound c.args.estimate.now) scene.limit
          c.in_ok-search.search (record { cost = 0; left = 0; last = None }) made.store made.links made.nodes refl refl made.agenda
          c.requires.some c.requires.few,
      c.requires.suits,
    )

pub loop-search-smaller : goal.loop-search-smaller
loop-search-smaller g c =
    let scene = c.args.scene.now in
    let before = c.loop-search.search in
    let few =
    few_taken scene.task.now (g.L.Look.known scene.look.now) (g.C.Consistent.bound c.loop-search.estimate) scene.limit before
    c.loop-search.place c.loop-search.invariant.0 in
    let closes = subst (ClosesNext c.visit.new.search c.close_next.new.self) c.in-Some.is c.in_ok-next.ensures in
    let longer : length c.close_next.new.self.links.items ≡ length before.links.items + 1 =
    ap length closes.links ∙ length-append c.visit.new.search.links.items (closes.link ∷ [])
    ∙ ap (λ ls. length ls + 1) c.visit.ensures.links in
    omega (arith, few, longer)

pub loop-search-preserved : goal.loop-search-preserved
loop-search-preserved g c =
    let scene = c.args.scene.now in
    let task = scene.task.now in
    let known = g.L.Look.known scene.look.now in
    let estimate = c.visit.new.estimate in
    let bound = g.C.Consistent.bound estimate in
    let search = c.visit.new.search in
    let suits = c.visit.ensures.suits task known c.loop-search.invariant.1 in
    let consistent = g.met.C.Consistent.lawful.consistent estimate task known suits in
    let is = subst (Visits task known bound scene.limit search) c.in-On.is c.in_ok-visit.ensures.visits in
    let closes = subst (ClosesNext search c.close_next.new.self) c.in-Some.is c.in_ok-next.ensures in
    (taken task known bound scene.limit consistent search c.close_next.new.self c.in-Some.next is closes, suits)

pub returns-in-None : goal.returns-in-None
returns-in-None g c =
    let scene = c.args.scene.now in
    let task = scene.task.now in
    let known = g.L.Look.known scene.look.now in
    let bound = g.C.Consistent.bound c.visit.new.estimate in
    let search = c.visit.new.search in
    let is = subst (Visits task known bound scene.limit search) c.in-On.is c.in_ok-visit.ensures.visits in
    let none = subst (ClosesNext search c.close_next.new.self) c.in-None.is c.in_ok-next.ensures in
    ended task known bound scene.limit search is none
