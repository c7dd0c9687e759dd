use Rattle.std.proofs.Common.{MatchOption, subst}
use Rattle.turn_run.specs.Deciding.{IsDecidedIn, NothingIsDueIn}
use Rattle.turn_run.proofs.decide.decide_dues.Goals as goal

pub returns-in-Some : goal.returns-in-Some
returns-in-Some c =
    let situation = c.args.situation.now in
    subst (λ o. MatchOption o (NothingIsDueIn situation) (IsDecidedIn situation)) c.in-Some.is c.in_ok-decision.ensures

pub returns-in-None : goal.returns-in-None
returns-in-None c =
    let situation = c.args.situation.now in
    c.requires.last
    (subst (λ o. MatchOption o (NothingIsDueIn situation) (IsDecidedIn situation)) c.in-None.is c.in_ok-decision.ensures)
