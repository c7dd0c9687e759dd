use Rattle.std.proofs.Common.{◌∙◌, ap, drop, refl, subst, sym}
use Rattle.session_core.specs.Ready.{AreReady}
use Rattle.session_core.specs.State.{State}
use Rattle.plan_rows.proofs.session.round.Goals as goal

pub returns-clause-rest : goal.returns-clause-rest
returns-clause-rest c =
    let task = c.args.task.now in
    let count = c.next_round-count.result in
    let begun_is = c.in_ok-begin_round.ensures.begun in
    let same = c.if-not-play.ensures.same refl in
    subst (λ es. AreReady task es (drop count c.args.dues.now)) (sym (ap (λ (y : State). y.entries) c.in_ok-learn.ensures.learnt))
    (c.close_round.ensures.rest task c.args.dues.now count (same.kept task c.in_ok-begin_round.ensures.kept)
    (same.instances ∙ ap (λ (y : State). y.instances) begun_is)
    (subst (λ es. AreReady task es c.args.dues.now) (sym (same.entries ∙ ap (λ (y : State). y.entries) begun_is)) c.requires.ready))
