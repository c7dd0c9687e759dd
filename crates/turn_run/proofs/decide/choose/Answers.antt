use Rattle.std.proofs.Common.{refl, subst, sym}
use Rattle.turn_run.specs.Deciding.{FindsIn, MayFindIn}
use Rattle.turn_run.proofs.decide.choose.Goals as goal

pub decide_found-requires-clause-finds : goal.decide_found-requires-clause-finds
decide_found-requires-clause-finds g c =
    let situation = c.args.situation.now in
    subst (λ b. FindsIn b situation c.in-Some.found) (sym c.requires.seeks.is)
    (subst (MayFindIn g.S.PlanSearch.cheapest situation) c.in-Some.is c.in_ok-found.ensures.found)

pub decide_found-requires-clause-seeks : goal.decide_found-requires-clause-seeks
decide_found-requires-clause-seeks g c = record { is = refl; alone = c.requires.seeks.alone }

pub decide_hopeless-requires-clause-none : goal.decide_hopeless-requires-clause-none
decide_hopeless-requires-clause-none g c =
    subst (MayFindIn g.S.PlanSearch.cheapest c.args.situation.now) c.in-None.is c.in_ok-found.ensures.found
