use Rattle.std.proofs.Common.{◌≡◌, ap, sym, subst, ◌∙◌, ◌+◌, false, length, [], take, vec_len, vec_capacity, arith}
use Rattle.session_core.proofs.RoundBeginLemmas.{the_state, named_all, children_fit, begun_sound, begun_fresh, begin_kept}
use Rattle.session_core.specs.Events.{IsFresh}
use Rattle.pools.specs.Pools.{IsChild, child_for, asked_streams}
use Rattle.session_core.specs.Session.{IsSession, MayBeginRound}
use Rattle.session_core.specs.Shown.{shown_session}
use Rattle.session_core.specs.Slots.{asks_from, slots_from}
use Rattle.session_core.specs.State.{State, IsSound}
use Rattle.session_core.proofs.session.Session.begin_round.Goals as goal

pub round_of-requires-clause-named : goal.round_of-requires-clause-named
round_of-requires-clause-named c =
    let task = c.args.task.now in
    let dues = c.args.dues.now in
    let s = shown_session c.self.inside in
    let may = subst (λ (t : State). t.failed ≡ false → MayBeginRound task t dues) (sym c.self.view_is) c.requires.round c.if-self.false in
    named_all task s dues c.if-self.false may (subst (IsSession task) (sym c.self.view_is) c.requires.session)

pub round_of-requires-clause-children : goal.round_of-requires-clause-children
round_of-requires-clause-children c = λ k d at.
    let task = c.args.task.now in
    let dues = c.args.dues.now in
    let s = shown_session c.self.inside in
    let may = subst (λ (t : State). t.failed ≡ false → MayBeginRound task t dues) (sym c.self.view_is) c.requires.round c.if-self.false in
    subst (λ ps. IsChild (child_for ps (asked_streams (take k dues)) d.instance.stream)) (sym c.as_slice.ensures.value)
    (children_fit task s dues c.if-self.false may (subst (IsSession task) (sym c.self.view_is) c.requires.session) k d at)

pub invariant_of-self-2 : goal.invariant_of-self-2
invariant_of-self-2 c =
    let task = c.args.task.now in
    let dues = c.args.dues.now in
    let s = shown_session c.self.inside in
    let may = subst (λ (t : State). t.failed ≡ false → MayBeginRound task t dues) (sym c.self.view_is) c.requires.round c.if-self.false in
    let was = subst (IsSession task) (sym c.self.view_is) c.requires.session in
    let asked_long : c.len.result ≡ length s.asked = c.len.ensures ∙ c.reserve-2.new.self.ok.0 ∙ ap length c.reserve-2.ensures.items in
    let first : c.len.result + 1 ≡ length s.asked + 1 = ap (λ n. n + 1) asked_long in
    let asks = c.in_ok-round.ensures.asks ∙ ap (λ n. asks_from task s.known.names n dues) first in
    let slots =
    c.in_ok-round.ensures.cells ∙ (λ k. slots_from task s.known.names s.version (c.as_slice.ensures.value k) (first k) [] dues) in
    let room = c.in_ok-reserve.ensures.ok in
    let more = c.in_ok-reserve-2.ensures.ok in
    let entries_long : vec_len c.reserve.new.self ≡ length s.entries = c.reserve.new.self.ok.0 ∙ ap length c.reserve.ensures.items in
    let asked_again : vec_len c.reserve-2.new.self ≡ length s.asked = c.reserve-2.new.self.ok.0 ∙ ap length c.reserve-2.ensures.items in
    subst (λ (t : State). IsSound t (vec_capacity c.reserve.new.self) (vec_capacity c.reserve-2.new.self))
    (sym (the_state s c.reserve.new.self.items c.reserve-2.new.self.items c.in_ok-round.round.asks.items
    c.in_ok-round.round.instances.items c.in_ok-round.round.cells.items task dues c.reserve.ensures.items c.reserve-2.ensures.items
    asks c.in_ok-round.ensures.instances slots))
    (begun_sound task s dues c.if-self.false may was (vec_capacity c.reserve.new.self)
    (vec_capacity c.reserve-2.new.self) (omega (arith, room, entries_long)) (omega (arith, more, asked_again)) c.self.invariant.calls)

pub returns-clause-kept : goal.returns-clause-kept
returns-clause-kept c =
    let task = c.args.task.now in
    let dues = c.args.dues.now in
    let s = shown_session c.self.inside in
    let may = subst (λ (t : State). t.failed ≡ false → MayBeginRound task t dues) (sym c.self.view_is) c.requires.round c.if-self.false in
    let was = subst (IsSession task) (sym c.self.view_is) c.requires.session in
    let asked_long : c.len.result ≡ length s.asked = c.len.ensures ∙ c.reserve-2.new.self.ok.0 ∙ ap length c.reserve-2.ensures.items in
    let first : c.len.result + 1 ≡ length s.asked + 1 = ap (λ n. n + 1) asked_long in
    let asks = c.in_ok-round.ensures.asks ∙ ap (λ n. asks_from task s.known.names n dues) first in
    let slots =
    c.in_ok-round.ensures.cells ∙ (λ k. slots_from task s.known.names s.version (c.as_slice.ensures.value k) (first k) [] dues) in
    subst (IsSession task) (sym (the_state s c.reserve.new.self.items c.reserve-2.new.self.items c.in_ok-round.round.asks.items
    c.in_ok-round.round.instances.items c.in_ok-round.round.cells.items task dues c.reserve.ensures.items c.reserve-2.ensures.items asks
    c.in_ok-round.ensures.instances slots))
    (begin_kept task s dues c.if-self.false may was)

pub returns-clause-fresh : goal.returns-clause-fresh
returns-clause-fresh c =
    let task = c.args.task.now in
    let dues = c.args.dues.now in
    let s = shown_session c.self.inside in
    let may = subst (λ (t : State). t.failed ≡ false → MayBeginRound task t dues) (sym c.self.view_is) c.requires.round c.if-self.false in
    let was = subst (IsSession task) (sym c.self.view_is) c.requires.session in
    let asked_long : c.len.result ≡ length s.asked = c.len.ensures ∙ c.reserve-2.new.self.ok.0 ∙ ap length c.reserve-2.ensures.items in
    let first : c.len.result + 1 ≡ length s.asked + 1 = ap (λ n. n + 1) asked_long in
    let slots =
    c.in_ok-round.ensures.cells ∙ (λ k. slots_from task s.known.names s.version (c.as_slice.ensures.value k) (first k) [] dues) in
    subst IsFresh (sym slots) (begun_fresh task s dues c.if-self.false may was)
