use Rattle.std.proofs.Common.{◌≡◌, ap, subst, ◌∙◌, arith, vec_len}
use Rattle.std.proofs.lemmas.Option.{slice_get_within}
use Rattle.lemmas.proofs.Bools.{not_both}
use Rattle.lemmas.proofs.ListTests.{get_some, one_there}
use Rattle.optimal_search.proofs.TurnsLemmas.{expanded, expanding, few_taken, met}
use Rattle.optimal_search.specs.Searches.{Relaxes}
use Rattle.optimal_search.specs.declared.agenda.Node.{Node}
use Rattle.optimal_search.specs.declared.relax.Expansion.{Expansion}
use Rattle.task_model.specs.Plans.{IsGoal}
use Rattle.optimal_search.proofs.astar.visit.Goals as goal

pub returns-then-meets_goal-clause-visits : goal.returns-then-meets_goal-clause-visits
returns-then-meets_goal-clause-visits g c =
    let scene = c.args.scene.now in
    let known = g.L.Look.known scene.look.now in
    let search = c.args.search.now in
    let taken = c.requires.taken in
    let same = one_there search.store c.args.place c.in_ok-state.state taken.way.state c.in_ok-state.ensures taken.here in
    met scene.task.now known (g.C.Consistent.bound c.args.estimate.now) scene.limit search c.args.place taken
    (subst (IsGoal scene.task.now known) same (c.meets_goal.ensures.0 c.if-meets_goal.true))

pub overflow_cast-from : goal.overflow_cast-from
overflow_cast-from g c =
    let scene = c.args.scene.now in
    let search = c.args.search.now in
    omega (
      arith,
      few_taken scene.task.now (g.L.Look.known scene.look.now) (g.C.Consistent.bound c.args.estimate.now) scene.limit search c.args.place
          c.requires.taken,
      c.requires.taken.sound.most,
      c.len.ensures,
      search.links.ok.0,
    )

pub index-requires : goal.index-requires
index-requires g c =
    let nodes = c.args.search.now.agenda.nodes in
    omega (arith, slice_get_within nodes.items c.args.place c.requires.taken.node c.requires.taken.at, nodes.ok.0)

pub relax_all-requires-clause-expanding : goal.relax_all-requires-clause-expanding
relax_all-requires-clause-expanding g c =
    let scene = c.args.scene.now in
    let task = scene.task.now in
    let known = g.L.Look.known scene.look.now in
    let search = c.args.search.now in
    let place = c.args.place in
    let taken = c.requires.taken in
    let nodes = search.agenda.nodes.items in
    let node = c.index.result.now in
    let same = one_there search.store place c.in_ok-state.state taken.way.state c.in_ok-state.ensures taken.here in
    let at = get_some nodes place node (slice_get_within nodes place taken.node taken.at) c.index.ensures in
    let price : node.cost ≡ taken.way.cost = ap (λ (v : Node). v.cost) (one_there nodes place node taken.node at taken.at) ∙ taken.cost in
    expanding task known (g.C.Consistent.bound c.args.estimate.now) scene.limit search place _ taken
    (omega (arith, c.len.ensures, search.links.ok.0)) c.in_ok-state.ensures same price
    (λ is. not_both c.meets_goal.result (c.meets_goal.ensures.1 is) c.if-meets_goal.false) c.in_ok-steps.ensures

pub returns-then-branch-clause-visits : goal.returns-then-branch-clause-visits
returns-then-branch-clause-visits g c =
    let scene = c.args.scene.now in
    let task = scene.task.now in
    let known = g.L.Look.known scene.look.now in
    let bound = g.C.Consistent.bound c.relax_all.new.estimate in
    let steps = c.in_ok-steps.steps in
    let from : Expansion = record {
      number = c.len.result;
      place = c.args.place;
      cost = c.index.result.now.cost;
      state = c.in_ok-state.state;
      steps = steps;
    } in
    let all =
    subst (Relaxes task known bound scene.limit c.relax_all.new.search from (vec_len steps)) c.if-branch.true
    c.in_ok-relax_all.ensures.goes in
    expanded task known bound scene.limit c.relax_all.new.search from (vec_len steps) all (omega (arith, steps.ok.0))
