use Rattle.std.proofs.Common.{◌≡◌, false, subst, sym}
use Rattle.std.specs.Result.{IfOk}
use Rattle.solve_run.specs.NextDreams.{IsNextDream}
use Rattle.round_run.proofs.GoingLemmas.{to_parts}
use Rattle.transcript_model.specs.declared.head.Head.{Head}
use Rattle.solve_run.proofs.dreamt.next_dream.Goals as goal

pub dream_over-requires-clause-any : goal.dream_over-requires-clause-any
dream_over-requires-clause-any c =
    subst (λ (h : Head). h.optimal ≡ false) (sym c.situation_on.ensures.lies.head) c.requires.any

pub returns : goal.returns
returns c =
    let situation = c.situation_on.result in
    let lies = c.situation_on.ensures.lies in
    to_parts (λ t h s. IfOk c.dream_over.result (IsNextDream h t s.entries c.args.tried.now)) c.args.desk.now situation.task.now
    situation.head.now situation.session.now lies.task lies.head lies.session c.dream_over.ensures
