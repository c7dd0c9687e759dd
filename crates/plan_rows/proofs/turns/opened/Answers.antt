use Rattle.std.proofs.Common.{◌≡◌, ◌∙◌, false, subst, sym, take}
use Rattle.session_core.specs.Ready.{AreReady}
use Rattle.session_core.specs.Session.{IsLearnt, IsSession, MayBeginRound}
use Rattle.session_core.specs.State.{State}
use Rattle.plan_rows.proofs.turns.opened.Goals as goal

pub begin_round-requires-clause-round : goal.begin_round-requires-clause-round
begin_round-requires-clause-round c = λ works.
    let task = c.args.task.now in
    let count = c.next_round-count.result in
    let first = c.in_ok-session.session.value in
    let stands = c.in_ok-session.ensures in
    let same = sym c.deref-2.ensures in
    let ready = subst (λ (s : State). AreReady task s.entries c.in_ok-dues.dues.items) c.deref.ensures c.in_ok-dues.ensures.ready in
    let may = subst (λ (s : State). MayBeginRound task s (take count c.as_slice.result.now)) c.deref-2.ensures
    (c.next_round-count.ensures.may task (subst (IsSession task) same stands.session)
    (subst (λ (s : State). s.failed ≡ false) same stands.works) (subst IsLearnt same stands.learnt)
    (subst (λ (s : State). AreReady task s.entries c.as_slice.result.now) same
    (subst (AreReady task first.entries) (sym c.as_slice.ensures.value) ready))) in
    subst (λ (s : State). MayBeginRound task s (take count c.as_slice-2.result.now)) (sym c.deref_mut.ensures.value)
    (subst (λ ds. MayBeginRound task first (take count ds)) (c.as_slice.ensures.value ∙ sym c.as_slice-2.ensures.value) may)
