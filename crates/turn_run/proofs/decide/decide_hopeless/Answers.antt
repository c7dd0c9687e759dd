use Rattle.std.proofs.Common.{MatchOption, inl, subst}
use Rattle.turn_run.specs.Deciding.{IsDecidedIn, NothingIsDueIn}
use Rattle.turn_run.proofs.decide.decide_hopeless.Goals as goal

pub decide_asks-requires-clause-needed : goal.decide_asks-requires-clause-needed
decide_asks-requires-clause-needed c = inl c.requires.none

pub returns-in-Some : goal.returns-in-Some
returns-in-Some c =
    let situation = c.args.situation.now in
    subst (λ o. MatchOption o (NothingIsDueIn situation) (IsDecidedIn situation)) c.in-Some.is c.in_ok-decision.ensures

pub end_of_hopeless-requires-clause-settled : goal.end_of_hopeless-requires-clause-settled
end_of_hopeless-requires-clause-settled c =
    let situation = c.args.situation.now in
    subst (λ o. MatchOption o (NothingIsDueIn situation) (IsDecidedIn situation)) c.in-None.is c.in_ok-decision.ensures
