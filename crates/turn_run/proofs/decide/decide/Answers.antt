use Rattle.std.proofs.Common.{length, subst, sym}
use Rattle.std.specs.Result.{IfOk}
use Rattle.round_run.proofs.GoingLemmas.{to_parts}
use Rattle.turn_run.specs.Deciding.{SeeksPlan}
use Rattle.turn_run.specs.Turns.{IsDecided}
use Rattle.turn_run.proofs.decide.decide.Goals as goal

pub choose-requires-clause-seeks : goal.choose-requires-clause-seeks
choose-requires-clause-seeks g c =
    subst (SeeksPlan g.S.PlanSearch.cheapest) (sym c.situation_on.ensures.lies.head) c.requires.seeks

pub returns : goal.returns
returns g c =
    let situation = c.situation_on.result in
    let lies = c.situation_on.ensures.lies in
    to_parts (λ t h s. IfOk c.choose.result (IsDecided h t s.entries (length s.asked))) c.args.desk.now situation.task.now
    situation.head.now situation.session.now lies.task lies.head lies.session c.choose.ensures
