use Rattle.std.proofs.Common.{◌≡◌, ℕ, ◌++◌, ap, sym, subst, ◌∙◌, rules, unwrap_or, slice_get, false, length, ◌+◌, drop}
use Rattle.instance_queue.specs.Level.{due_instances}
use Rattle.session_core.specs.Ready.{AreReady}
use Rattle.session_core.specs.Session.{round_begun}
use Rattle.session_core.specs.State.{State, with_slots}
use Rattle.std.proofs.lemmas.List.{length-append, length-map}
use Rattle.instance_queue.specs.declared.due.Due.{Due}
use Rattle.transcript_model.specs.Legal.{HasNoneOpen, IsLegal}
use Rattle.round_run.proofs.BreakingLemmas.{breaks_none, breaks_then, tells_memory}
use Rattle.round_run.specs.Breaking.{LogBreaks}
use Rattle.round_run.proofs.CallsRoundLemmas.{round_order}
use Rattle.transcript_model.specs.Rounds.{IsRound}
use Rattle.round_run.proofs.LedLemmas.{joined, led_as, led_handed, led_none, led_then}
use Rattle.round_run.proofs.RollingFrontLemmas.{front_first, front_whole}
use Rattle.transcript_model.proofs.RoundsFrontLemmas.{round_exists}
use Rattle.round_run.proofs.RollingEndLemmas.{all_heard, count_is, rolling_begun, round_end}
use Rattle.round_run.proofs.StoppedLemmas.{handed, stopped_memory, stopped_then}
use Rattle.round_run.proofs.TalkingRoundLemmas.{talking_begun}
use Rattle.round_run.proofs.TalkingEndLemmas.{round_told}
use Rattle.round_run.proofs.TalkingLemmas.{dialogue_run}
use Rattle.round_run.specs.Calls.{AddsCalls}
use Rattle.round_run.specs.Rolling.{Goes, IsFrontPart, IsRolling, Stopped}
use Rattle.round_run.specs.Talking.{IsTalking, IsTold, held_of}
use Rattle.round_run.proofs.round.run_round.Goals as goal

pub send_all-requires-clause-rolling : goal.send_all-requires-clause-rolling
send_all-requires-clause-rolling g c =
    let s = c.args.session.now in
    subst (λ (x : State). IsRolling x (g.H.Host.running c.args.host.now) 0 0) (sym c.in-Ok.ensures.begun)
    (rolling_begun c.args.task.now s c.args.dues.now
    (g.H.Host.running c.args.host.now) c.requires.listens.working c.requires.round c.requires.listens.session c.requires.all_run)

pub send_all-requires-clause-count : goal.send_all-requires-clause-count
send_all-requires-clause-count g c =
    count_is c.args.task.now c.args.session.now c.begin_round.new.self c.args.dues.now c.in-Ok.count c.in-Ok.ensures.count
    c.in-Ok.ensures.begun

pub hear_all-requires-clause-count : goal.hear_all-requires-clause-count
hear_all-requires-clause-count g c =
    count_is c.args.task.now c.args.session.now c.begin_round.new.self c.args.dues.now c.in-Ok.count c.in-Ok.ensures.count
    c.in-Ok.ensures.begun
    ∙ sym c.in_ok-send_all.ensures.sends.rolled.many

pub returns-in_err-send_all : goal.returns-in_err-send_all
returns-in_err-send_all g c = record {
  runs = record {
    session = search rules;
    listens = search rules;
    ran = search rules;
    adds = search rules;
    stopped =
        let s = c.args.session.now in
        let task = c.args.task.now in
        let fault = c.in_err-send_all.field-0.0 in
        let talking =
        subst (λ (y : State). IsTalking task y 0 0 (held_of c.args.lines.now) (g.H.Host.spoken c.args.host.now)) (sym c.in-Ok.ensures.begun)
        (talking_begun task s c.args.dues.now (g.H.Host.running c.args.host.now) (held_of c.args.lines.now)
        (g.H.Host.spoken c.args.host.now) c.requires.listens.working c.requires.round c.requires.listens.session c.requires.all_run
        c.requires.listens.told)
        in
        handed c.from_residual.result fault _ c.from_residual.ensures.1
        (subst (λ (y : State).
        Stopped y.version task y.pools (IsFrontPart y.entries (IsRound task y.entries y.instances)) y.entries fault
        (g.O.Sink.taken c.args.out.now) (g.O.Sink.taken c.send_all.new.out) (g.H.Host.spoken c.send_all.new.host)
        (LogBreaks task y.version y.pools y.entries fault (g.H.Host.log c.args.host.now) (g.H.Host.log c.send_all.new.host)))
        c.in-Ok.ensures.begun (c.in_err-send_all.ensures.sends.stopped task (held_of c.args.lines.now) c.in-Ok.ensures.kept talking));
    same = search rules;
    causes = search rules;
    led = led_handed _ c.in_err-send_all.field-0.0 c.from_residual.result c.from_residual.ensures.1 c.in_err-send_all.ensures.sends.led;
  };
}

pub returns-in_err-hear_all : goal.returns-in_err-hear_all
returns-in_err-hear_all g c = record {
  runs = record {
    session = search rules;
    listens = search rules;
    ran = search rules;
    adds = search rules;
    stopped =
        let s = c.args.session.now in
        let task = c.args.task.now in
        let x = round_begun task s c.args.dues.now in
        let fault = c.in_err-hear_all.field-0.0 in
        let spoken = g.H.Host.spoken c.hear_all.new.host in
        let was = g.H.Host.log c.args.host.now in
        let mid = g.H.Host.log c.send_all.new.host in
        let log = g.H.Host.log c.hear_all.new.host in
        let talking =
        subst (λ (y : State). IsTalking task y 0 0 (held_of c.args.lines.now) (g.H.Host.spoken c.args.host.now)) (sym c.in-Ok.ensures.begun)
        (talking_begun task s c.args.dues.now (g.H.Host.running c.args.host.now) (held_of c.args.lines.now)
        (g.H.Host.spoken c.args.host.now) c.requires.listens.working c.requires.round c.requires.listens.session c.requires.all_run
        c.requires.listens.told)
        in
        let calls =
        subst (λ (y : State). AddsCalls task y.pools y.entries (y.entries ++ y.asks) was mid) c.in-Ok.ensures.begun
        ((c.in_ok-send_all.ensures.sends.said task (held_of c.args.lines.now) c.in-Ok.ensures.kept talking).1) in
        let sent = (c.in_ok-send_all.ensures.sends.said task (held_of c.args.lines.now) c.in-Ok.ensures.kept talking).0 in
        let all_sent = subst (λ n. IsTalking task c.send_all.new.session n 0 (held_of c.args.lines.now) (g.H.Host.spoken
        c.send_all.new.host))
        (count_is task s c.begin_round.new.self c.args.dues.now c.in-Ok.count c.in-Ok.ensures.count c.in-Ok.ensures.begun
        ∙ sym c.in_ok-send_all.ensures.sends.rolled.many) sent in
        let first =
        subst (λ (y : State).
        Stopped y.version task y.pools (IsFrontPart y.entries (IsRound task y.entries y.instances)) (y.entries ++ y.asks) fault
        (g.O.Sink.taken c.send_all.new.out) (g.O.Sink.taken c.hear_all.new.out) spoken
        (LogBreaks task y.version y.pools (y.entries ++ y.asks) fault mid log)) c.in_ok-send_all.ensures.sends.rolled.same
        (c.in_err-hear_all.ensures.hears.stopped task (c.in_ok-send_all.ensures.sends.kept task c.in-Ok.ensures.kept) all_sent) in
        let second =
        subst (λ (y : State).
        Stopped y.version task y.pools (IsFrontPart y.entries (IsRound task y.entries y.instances)) (y.entries ++ y.asks) fault
        (g.O.Sink.taken c.send_all.new.out) (g.O.Sink.taken c.hear_all.new.out) spoken
        (LogBreaks task y.version y.pools (y.entries ++ y.asks) fault mid log)) c.in-Ok.ensures.begun first in
        let goes = subst
        (λ (y : State). Goes y.entries (y.entries ++ y.asks) (g.O.Sink.taken c.args.out.now) (g.O.Sink.taken c.send_all.new.out))
        c.in-Ok.ensures.begun c.in_ok-send_all.ensures.sends.goes in
        handed c.from_residual-in_err-hear_all.result fault _ c.from_residual-in_err-hear_all.ensures.1
        (stopped_then s.version task s.pools spoken (IsFrontPart s.entries (IsRound task s.entries (due_instances c.args.dues.now)))
        s.entries
        (x.entries ++ x.asks) fault (g.O.Sink.taken c.args.out.now) (g.O.Sink.taken c.send_all.new.out) (g.O.Sink.taken c.hear_all.new.out)
        (LogBreaks task s.version s.pools s.entries fault was log) (LogBreaks task s.version s.pools (x.entries ++ x.asks) fault mid log)
        goes
        (breaks_then task s.version s.pools (IsFrontPart s.entries (IsRound task s.entries (due_instances c.args.dues.now)))
        s.entries (x.entries ++ x.asks) fault was mid log calls goes.more goes.pushed) second);
    same = search rules;
    causes = search rules;
    led = led_handed _ c.in_err-hear_all.field-0.0 c.from_residual-in_err-hear_all.result c.from_residual-in_err-hear_all.ensures.1
        (led_then (joined g.H.Host g.met.H.Host.chains c.args.host.now c.send_all.new.host c.hear_all.new.host)
        c.in_ok-send_all.ensures.sends.led c.in_err-hear_all.ensures.hears.led);
  };
}

pub close_round-requires-clause-answered : goal.close_round-requires-clause-answered
close_round-requires-clause-answered g c =
    let count =
    count_is c.args.task.now c.args.session.now c.begin_round.new.self c.args.dues.now c.in-Ok.count c.in-Ok.ensures.count
    c.in-Ok.ensures.begun
    ∙ sym c.in_ok-send_all.ensures.sends.rolled.many ∙ sym c.in_ok-hear_all.ensures.hears.rolled.many in
    (all_heard c.hear_all.new.session (g.H.Host.running c.hear_all.new.host) c.in-Ok.count count
    (subst (λ n. IsRolling c.hear_all.new.session (g.H.Host.running c.hear_all.new.host) n c.in-Ok.count) (sym count)
    c.in_ok-hear_all.ensures.hears.rolled.rolling)).0

pub returns-in-Ok-learn : goal.returns-in-Ok-learn
returns-in-Ok-learn g c = record {
  runs = record {
    session = search rules;
    listens =
        let s = c.args.session.now in
        let task = c.args.task.now in
        let x = c.hear_all.new.session in
        let count =
        count_is task s c.begin_round.new.self c.args.dues.now c.in-Ok.count c.in-Ok.ensures.count c.in-Ok.ensures.begun
        ∙ sym c.in_ok-send_all.ensures.sends.rolled.many ∙ sym c.in_ok-hear_all.ensures.hears.rolled.many in
        let all = all_heard x (g.H.Host.running c.hear_all.new.host) c.in-Ok.count count
        (subst (λ n. IsRolling x (g.H.Host.running c.hear_all.new.host) n c.in-Ok.count) (sym count)
        c.in_ok-hear_all.ensures.hears.rolled.rolling) in
        let talking =
        subst (λ (y : State). IsTalking task y 0 0 (held_of c.args.lines.now) (g.H.Host.spoken c.args.host.now)) (sym c.in-Ok.ensures.begun)
        (talking_begun task s c.args.dues.now (g.H.Host.running c.args.host.now) (held_of c.args.lines.now)
        (g.H.Host.spoken c.args.host.now) c.requires.listens.working c.requires.round c.requires.listens.session c.requires.all_run
        c.requires.listens.told)
        in
        let h = c.in_ok-send_all.ensures.sends.kept task c.in-Ok.ensures.kept in
        let kept = c.in_ok-hear_all.ensures.hears.kept task h in
        let all_sent = subst (λ n. IsTalking task c.send_all.new.session n 0 (held_of c.args.lines.now) (g.H.Host.spoken
        c.send_all.new.host))
        (count_is task s c.begin_round.new.self c.args.dues.now c.in-Ok.count c.in-Ok.ensures.count c.in-Ok.ensures.begun
        ∙ sym c.in_ok-send_all.ensures.sends.rolled.many)
        (c.in_ok-send_all.ensures.sends.said task (held_of c.args.lines.now) c.in-Ok.ensures.kept talking).0 in
        let answered = subst (λ n. IsTalking task x n c.in-Ok.count (held_of c.hear_all.new.lines) (g.H.Host.spoken c.hear_all.new.host))
        (sym count) (c.in_ok-hear_all.ensures.hears.said task h all_sent).0 in
        let ran : (k : ℕ) → g.H.Host.running c.hear_all.new.host k ≡ g.H.Host.running c.args.host.now k =
        λ k. c.in_ok-hear_all.ensures.hears.same.stays.running k ∙ c.in_ok-send_all.ensures.sends.running k in
        let told = round_told task x c.in-Ok.count (g.H.Host.running c.args.host.now) (g.H.Host.running c.hear_all.new.host)
        (held_of c.args.lines.now) (held_of c.hear_all.new.lines) (g.H.Host.spoken c.hear_all.new.host)
        c.in_ok-hear_all.ensures.hears.rolled.rolling.begun kept count c.in_ok-hear_all.ensures.hears.rolled.rolling.asks all.1 ran
        (λ k off. c.in_ok-hear_all.ensures.hears.same.idle k (c.in_ok-send_all.ensures.sends.running k ∙ off))
        (λ k off. c.requires.listens.told.idle k off) answered
        in
        let after = subst (λ (y : State).
        IsTold task y.version y.pools y.entries (g.H.Host.running c.hear_all.new.host)
        (held_of c.hear_all.new.lines) (g.H.Host.spoken c.hear_all.new.host)) (sym c.in-Ok-learn.ensures.learnt)
        (subst (λ (y : State).
        IsTold task y.version y.pools y.entries (g.H.Host.running c.hear_all.new.host)
        (held_of c.hear_all.new.lines) (g.H.Host.spoken c.hear_all.new.host)) (sym c.close_round.ensures.after) told) in
        record {
          session = search rules;
          working = search rules;
          state = λ k. ap (λ bs. unwrap_or (slice_get bs k) false) c.in_ok-hear_all.ensures.hears.same.stays.started
              ∙ c.requires.listens.state k ∙ sym (ran k);
          told = after;
        };
    ran =
        let x = c.hear_all.new.session in
        let count =
        count_is c.args.task.now c.args.session.now c.begin_round.new.self c.args.dues.now c.in-Ok.count c.in-Ok.ensures.count
        c.in-Ok.ensures.begun
        ∙ sym c.in_ok-send_all.ensures.sends.rolled.many ∙ sym c.in_ok-hear_all.ensures.hears.rolled.many in
        let all = all_heard x (g.H.Host.running c.hear_all.new.host) c.in-Ok.count count
        (subst (λ n. IsRolling x (g.H.Host.running c.hear_all.new.host) n c.in-Ok.count) (sym count)
        c.in_ok-hear_all.ensures.hears.rolled.rolling) in
        let kept = c.in_ok-hear_all.ensures.hears.kept c.args.task.now (c.in_ok-send_all.ensures.sends.kept c.args.task.now
        c.in-Ok.ensures.kept) in
        let end = round_end c.args.task.now c.args.session.now c.begin_round.new.self c.send_all.new.session x c.args.dues.now
        (g.O.Sink.taken c.args.out.now) (g.O.Sink.taken c.send_all.new.out) (g.O.Sink.taken c.hear_all.new.out) c.in-Ok.ensures.begun
        c.in_ok-send_all.ensures.sends.rolled.same c.in_ok-hear_all.ensures.hears.rolled.same
        c.in_ok-hear_all.ensures.hears.rolled.rolling.begun kept all.1
        c.in_ok-send_all.ensures.sends.goes c.in_ok-hear_all.ensures.hears.goes in
        let m = c.send_all.new.session in
        let s = c.args.session.now in
        let m_is = c.in_ok-send_all.ensures.sends.rolled.same ∙ ap (λ (y : State). with_slots y m.slots m.failed) c.in-Ok.ensures.begun in
        let x_is = c.in_ok-hear_all.ensures.hears.rolled.same ∙ ap (λ (y : State). with_slots y x.slots x.failed) m_is in
        record {
          working = search rules;
          learnt = search rules;
          calls = search rules;
          version = search rules;
          pools = search rules;
          asked = ap (λ (y : State). length y.asked) c.in-Ok-learn.ensures.learnt
              ∙ ap (λ (y : State). length y.asked) c.close_round.ensures.after
              ∙ ap (λ (y : State). length (y.asked ++ y.instances)) x_is ∙ length-append s.asked (due_instances c.args.dues.now)
              ∙ ap (λ n. length s.asked + n) (length-map c.args.dues.now (λ (d : Due). d.instance));
          more = end.more;
          pushed = ap (λ (y : State). y.entries) c.in-Ok-learn.ensures.learnt
              ∙ ap (λ (y : State). y.entries) c.close_round.ensures.after ∙ end.entries;
          round = end.round;
          rest = λ rest count front ready.
              subst (λ es. AreReady c.args.task.now es (drop count rest))
              (sym (ap (λ (y : State). y.entries) c.in-Ok-learn.ensures.learnt))
              (c.close_round.ensures.rest c.args.task.now rest count kept
              (ap (λ (y : State). y.instances) x_is ∙ ap due_instances front)
              (subst (λ es. AreReady c.args.task.now es rest) (sym (ap (λ (y : State). y.entries) x_is)) ready));
        };
    adds =
        let s = c.args.session.now in
        let task = c.args.task.now in
        let x = c.hear_all.new.session in
        let was = g.H.Host.log c.args.host.now in
        let mid = g.H.Host.log c.send_all.new.host in
        let now = g.H.Host.log c.hear_all.new.host in
        let count =
        count_is task s c.begin_round.new.self c.args.dues.now c.in-Ok.count c.in-Ok.ensures.count c.in-Ok.ensures.begun
        ∙ sym c.in_ok-send_all.ensures.sends.rolled.many ∙ sym c.in_ok-hear_all.ensures.hears.rolled.many in
        let all = all_heard x (g.H.Host.running c.hear_all.new.host) c.in-Ok.count count
        (subst (λ n. IsRolling x (g.H.Host.running c.hear_all.new.host) n c.in-Ok.count) (sym count)
        c.in_ok-hear_all.ensures.hears.rolled.rolling) in
        let talking =
        subst (λ (y : State). IsTalking task y 0 0 (held_of c.args.lines.now) (g.H.Host.spoken c.args.host.now)) (sym c.in-Ok.ensures.begun)
        (talking_begun task s c.args.dues.now (g.H.Host.running c.args.host.now) (held_of c.args.lines.now)
        (g.H.Host.spoken c.args.host.now) c.requires.listens.working c.requires.round c.requires.listens.session c.requires.all_run
        c.requires.listens.told)
        in
        let h = c.in_ok-send_all.ensures.sends.kept task c.in-Ok.ensures.kept in
        let sent = (c.in_ok-send_all.ensures.sends.said task (held_of c.args.lines.now) c.in-Ok.ensures.kept talking).1 in
        let all_sent = subst (λ n. IsTalking task c.send_all.new.session n 0 (held_of c.args.lines.now) (g.H.Host.spoken
        c.send_all.new.host))
        (count_is task s c.begin_round.new.self c.args.dues.now c.in-Ok.count c.in-Ok.ensures.count c.in-Ok.ensures.begun
        ∙ sym c.in_ok-send_all.ensures.sends.rolled.many)
        (c.in_ok-send_all.ensures.sends.said task (held_of c.args.lines.now) c.in-Ok.ensures.kept talking).0 in
        let heard = (c.in_ok-hear_all.ensures.hears.said task h all_sent).1 in
        let order =
        round_order task s c.begin_round.new.self c.send_all.new.session x c.args.dues.now was mid now c.in-Ok.ensures.begun
        c.in_ok-send_all.ensures.sends.rolled.same c.in_ok-hear_all.ensures.hears.rolled.same all.1 sent heard in
        let kept = c.in_ok-hear_all.ensures.hears.kept task h in
        let end = round_end task s c.begin_round.new.self c.send_all.new.session x c.args.dues.now
        (g.O.Sink.taken c.args.out.now) (g.O.Sink.taken c.send_all.new.out) (g.O.Sink.taken c.hear_all.new.out) c.in-Ok.ensures.begun
        c.in_ok-send_all.ensures.sends.rolled.same c.in_ok-hear_all.ensures.hears.rolled.same
        c.in_ok-hear_all.ensures.hears.rolled.rolling.begun kept all.1
        c.in_ok-send_all.ensures.sends.goes c.in_ok-hear_all.ensures.hears.goes in
        let entries =
        sym (ap (λ (y : State). y.entries) c.in-Ok-learn.ensures.learnt ∙ ap (λ (y : State). y.entries) c.close_round.ensures.after) in
        record {
          goes = subst (λ es. Goes s.entries es (g.O.Sink.taken c.args.out.now) (g.O.Sink.taken c.hear_all.new.out)) entries end.goes;
          order = subst (λ es. AddsCalls task s.pools s.entries es was now) entries order;
        };
    stopped = tt;
    same = search rules;
    causes = search rules;
    led = led_then (joined g.H.Host g.met.H.Host.chains c.args.host.now c.send_all.new.host c.hear_all.new.host)
        c.in_ok-send_all.ensures.sends.led c.in_ok-hear_all.ensures.hears.led;
  };
}

pub returns-in-Err-learn : goal.returns-in-Err-learn
returns-in-Err-learn g c = record {
  runs = record {
    session = search rules;
    listens = tt;
    ran = tt;
    adds = tt;
    stopped =
        let s = c.args.session.now in
        let task = c.args.task.now in
        let x = c.hear_all.new.session in
        let closed = c.close_round.new.self in
        let spoken = g.H.Host.spoken c.hear_all.new.host in
        let count =
        count_is task s c.begin_round.new.self c.args.dues.now c.in-Ok.count c.in-Ok.ensures.count c.in-Ok.ensures.begun
        ∙ sym c.in_ok-send_all.ensures.sends.rolled.many ∙ sym c.in_ok-hear_all.ensures.hears.rolled.many in
        let all = all_heard x (g.H.Host.running c.hear_all.new.host) c.in-Ok.count count
        (subst (λ n. IsRolling x (g.H.Host.running c.hear_all.new.host) n c.in-Ok.count) (sym count)
        c.in_ok-hear_all.ensures.hears.rolled.rolling) in
        let talking =
        subst (λ (y : State). IsTalking task y 0 0 (held_of c.args.lines.now) (g.H.Host.spoken c.args.host.now)) (sym c.in-Ok.ensures.begun)
        (talking_begun task s c.args.dues.now (g.H.Host.running c.args.host.now) (held_of c.args.lines.now)
        (g.H.Host.spoken c.args.host.now) c.requires.listens.working c.requires.round c.requires.listens.session c.requires.all_run
        c.requires.listens.told)
        in
        let h = c.in_ok-send_all.ensures.sends.kept task c.in-Ok.ensures.kept in
        let kept = c.in_ok-hear_all.ensures.hears.kept task h in
        let all_sent = subst (λ n. IsTalking task c.send_all.new.session n 0 (held_of c.args.lines.now) (g.H.Host.spoken
        c.send_all.new.host))
        (count_is task s c.begin_round.new.self c.args.dues.now c.in-Ok.count c.in-Ok.ensures.count c.in-Ok.ensures.begun
        ∙ sym c.in_ok-send_all.ensures.sends.rolled.many)
        (c.in_ok-send_all.ensures.sends.said task (held_of c.args.lines.now) c.in-Ok.ensures.kept talking).0 in
        let answered = subst (λ n. IsTalking task x n c.in-Ok.count (held_of c.hear_all.new.lines) (g.H.Host.spoken c.hear_all.new.host))
        (sym count) (c.in_ok-hear_all.ensures.hears.said task h all_sent).0 in
        let ran : (k : ℕ) → g.H.Host.running c.hear_all.new.host k ≡ g.H.Host.running c.args.host.now k =
        λ k. c.in_ok-hear_all.ensures.hears.same.stays.running k ∙ c.in_ok-send_all.ensures.sends.running k in
        let told = round_told task x c.in-Ok.count (g.H.Host.running c.args.host.now) (g.H.Host.running c.hear_all.new.host)
        (held_of c.args.lines.now) (held_of c.hear_all.new.lines) (g.H.Host.spoken c.hear_all.new.host)
        c.in_ok-hear_all.ensures.hears.rolled.rolling.begun kept count c.in_ok-hear_all.ensures.hears.rolled.rolling.asks all.1 ran
        (λ k off. c.in_ok-hear_all.ensures.hears.same.idle k (c.in_ok-send_all.ensures.sends.running k ∙ off))
        (λ k off. c.requires.listens.told.idle k off) answered
        in
        let end = round_end task s c.begin_round.new.self c.send_all.new.session x c.args.dues.now (g.O.Sink.taken c.args.out.now)
        (g.O.Sink.taken c.send_all.new.out) (g.O.Sink.taken c.hear_all.new.out) c.in-Ok.ensures.begun
        c.in_ok-send_all.ensures.sends.rolled.same
        c.in_ok-hear_all.ensures.hears.rolled.same c.in_ok-hear_all.ensures.hears.rolled.rolling.begun kept all.1
        c.in_ok-send_all.ensures.sends.goes
        c.in_ok-hear_all.ensures.hears.goes in
        let goes = subst (λ es. Goes s.entries es (g.O.Sink.taken c.args.out.now) (g.O.Sink.taken c.hear_all.new.out))
        (sym (ap (λ (y : State). y.entries) c.close_round.ensures.after)) end.goes in
        let version : closed.version ≡ s.version = ap (λ (y : State). y.version) c.close_round.ensures.after ∙ end.version in
        let pools : closed.pools ≡ s.pools = ap (λ (y : State). y.pools) c.close_round.ensures.after ∙ end.pools in
        let legal = subst (λ v. IsLegal v task closed.entries) version (c.close_round.ensures.kept task kept).legal in
        let closed_told =
        subst (λ (y : State).
        IsTold task y.version y.pools y.entries (g.H.Host.running c.hear_all.new.host) (held_of c.hear_all.new.lines) spoken)
        (sym c.close_round.ensures.after) told in
        let here = subst
        (λ v. IsTold task v s.pools closed.entries (g.H.Host.running c.hear_all.new.host) (held_of c.hear_all.new.lines) spoken) version
        (subst (λ ps. IsTold task closed.version ps closed.entries (g.H.Host.running c.hear_all.new.host)
        (held_of c.hear_all.new.lines) spoken) pools closed_told) in
        let front =
        front_whole s.entries closed.entries end.more (IsRound task s.entries (due_instances c.args.dues.now))
        (ap (λ (y : State). y.entries) c.close_round.ensures.after ∙ end.entries) end.round in
        let broken =
        dialogue_run task s.version s.pools closed.entries (g.H.Host.running c.hear_all.new.host)
        (held_of c.hear_all.new.lines) spoken (λ k child p at is. ran child ∙ c.requires.all_run k child p at is) here in
        let was = g.H.Host.log c.args.host.now in
        let mid = g.H.Host.log c.send_all.new.host in
        let log = g.H.Host.log c.hear_all.new.host in
        let fault = c.fault_of-in-Err-learn.result in
        let order =
        round_order task s c.begin_round.new.self c.send_all.new.session x c.args.dues.now was mid log c.in-Ok.ensures.begun
        c.in_ok-send_all.ensures.sends.rolled.same c.in_ok-hear_all.ensures.hears.rolled.same all.1
        ((c.in_ok-send_all.ensures.sends.said task (held_of c.args.lines.now) c.in-Ok.ensures.kept talking).1)
        (c.in_ok-hear_all.ensures.hears.said task h all_sent).1 in
        let calls =
        subst (λ es. AddsCalls task s.pools s.entries es was log) (sym (ap (λ (y : State). y.entries) c.close_round.ensures.after)) order in
        stopped_then s.version task s.pools spoken (IsFrontPart s.entries (IsRound task s.entries (due_instances c.args.dues.now))) s.entries
        closed.entries fault (g.O.Sink.taken c.args.out.now) (g.O.Sink.taken c.hear_all.new.out) (g.O.Sink.taken c.hear_all.new.out)
        (LogBreaks task s.version s.pools s.entries fault was log) (LogBreaks task s.version s.pools closed.entries fault log log) goes
        (breaks_then task s.version s.pools (IsFrontPart s.entries (IsRound task s.entries (due_instances c.args.dues.now)))
        s.entries closed.entries fault was log log calls goes.more goes.pushed)
        (stopped_memory s.version task s.pools spoken
        (IsFrontPart s.entries (IsRound task s.entries (due_instances c.args.dues.now))) closed.entries
        fault (g.O.Sink.taken c.hear_all.new.out) (LogBreaks task s.version s.pools closed.entries fault log log) legal front broken
        (breaks_none task s.version s.pools (IsFrontPart s.entries (IsRound task s.entries (due_instances c.args.dues.now))) closed.entries
        fault
        log
        (tells_memory (HasNoneOpen closed.entries) fault (c.close_round.ensures.kept task kept).none_open c.fault_of-in-Err-learn.ensures))
        c.fault_of-in-Err-learn.ensures);
    same = search rules;
    causes = search rules;
    led = led_as (led_then (joined g.H.Host g.met.H.Host.chains c.args.host.now c.send_all.new.host c.hear_all.new.host)
        c.in_ok-send_all.ensures.sends.led c.in_ok-hear_all.ensures.hears.led);
  };
}

pub returns-in-Err : goal.returns-in-Err
returns-in-Err g c = record {
  runs = record {
    session = search rules;
    listens = tt;
    ran = tt;
    adds = tt;
    stopped =
        let s = c.args.session.now in
        let task = c.args.task.now in
        let round = round_exists task s.entries (due_instances c.args.dues.now) in
        stopped_memory s.version task s.pools (g.H.Host.spoken c.args.host.now)
        (IsFrontPart s.entries (IsRound task s.entries (due_instances c.args.dues.now))) s.entries c.fault_of.result
        (g.O.Sink.taken c.args.out.now)
        (LogBreaks task s.version s.pools s.entries c.fault_of.result (g.H.Host.log c.args.host.now) (g.H.Host.log c.args.host.now))
        c.requires.listens.session.legal
        (front_first s.entries round.0 (IsRound task s.entries (due_instances c.args.dues.now)) round.1)
        (dialogue_run task s.version s.pools s.entries (g.H.Host.running c.args.host.now)
        (held_of c.args.lines.now) (g.H.Host.spoken c.args.host.now) c.requires.all_run c.requires.listens.told)
        (breaks_none task s.version s.pools (IsFrontPart s.entries (IsRound task s.entries (due_instances c.args.dues.now)))
        s.entries c.fault_of.result (g.H.Host.log c.args.host.now)
        (tells_memory (HasNoneOpen s.entries) c.fault_of.result c.requires.listens.session.none_open c.fault_of.ensures))
        c.fault_of.ensures;
    same = search rules;
    causes = search rules;
    led = led_none (g.met.H.Host.stays c.args.host.now);
  };
}
