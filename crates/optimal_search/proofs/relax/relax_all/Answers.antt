use Rattle.std.proofs.Common.{◌≡◌, subst, arith, vec_len}
use Rattle.optimal_search.specs.Searches.{IsExpanding}
use Rattle.optimal_search.proofs.relax.relax_all.Goals as goal

pub returns-clause-goes : goal.returns-clause-goes
returns-clause-goes g c =
    let scene = c.args.scene.now in
    let all : c.loop-index.index ≡ vec_len c.args.from.now.steps = omega arith in
    subst
    (IsExpanding scene.task.now (g.L.Look.known scene.look.now) (g.C.Consistent.bound c.loop-index.estimate) scene.limit
    c.loop-index.search c.args.from.now) all c.loop-index.invariant.0
