use Rattle.std.proofs.Common.{inl, sym, subst}
use Rattle.best_first.specs.Answer.{IsNothing}
use Rattle.turn_run.proofs.TurnsOutcomeLemmas.{found_least, found_limit, found_plan, no_plan_settled}
use Rattle.turn_run.specs.Deciding.{known_in}
use Rattle.turn_run.proofs.decide.decide_found.Goals as goal

pub known_plan-requires-clause-valid : goal.known_plan-requires-clause-valid
known_plan-requires-clause-valid c =
    let situation = c.args.situation.now in
    (found_plan situation.task.now (known_in situation) situation.head.now.states c.args.found c.in-Plan.plan c.in-Plan.cost
    c.in-Plan.is c.requires.finds.plan).valid

pub known_plan-requires-clause-few : goal.known_plan-requires-clause-few
known_plan-requires-clause-few c =
    let situation = c.args.situation.now in
    (found_plan situation.task.now (known_in situation) situation.head.now.states c.args.found c.in-Plan.plan c.in-Plan.cost
    c.in-Plan.is c.requires.finds.plan).few

pub known_plan-requires-clause-least : goal.known_plan-requires-clause-least
known_plan-requires-clause-least c = λ asked.
    let situation = c.args.situation.now in
    found_least situation.task.now (known_in situation) c.args.found c.in-Plan.plan c.in-Plan.cost c.in-Plan.is
    (c.requires.finds.least asked)

pub decide_dues-requires-clause-needed : goal.decide_dues-requires-clause-needed
decide_dues-requires-clause-needed c = inl (c.requires.finds.nothing.0 (subst IsNothing (sym c.in-Nothing.is) tt)).0

pub decide_dues-requires-clause-last : goal.decide_dues-requires-clause-last
decide_dues-requires-clause-last c =
    let situation = c.args.situation.now in
    let may = c.requires.may in
    let nothing = c.requires.finds.nothing.0 (subst IsNothing (sym c.in-Nothing.is) tt) in
    no_plan_settled situation.task.now situation.session.now may.working may.learnt may.session situation.head.now may.head nothing.0
    nothing.1

pub decide_far-requires-clause-past : goal.decide_far-requires-clause-past
decide_far-requires-clause-past c =
    let situation = c.args.situation.now in
    let head = situation.head.now in
    found_limit head.optimal situation.task.now (known_in situation) head.states c.args.found c.in-Limit.is c.requires.finds.past

pub returns-in_ok-shown-in-Plan : goal.returns-in_ok-shown-in-Plan
returns-in_ok-shown-in-Plan c = c.in_ok-shown-in-Plan.ensures
