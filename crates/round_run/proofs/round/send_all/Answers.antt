use Rattle.std.proofs.Common.{◌≡◌, ◌+◌, ◌++◌, ◌∙◌, ap, arith, subst, take, rules}
use Rattle.session_core.specs.State.{State, with_slots}
use Rattle.transcript_model.specs.Rounds.{IsRound}
use Rattle.std.proofs.lemmas.List.{take_all}
use Rattle.round_run.proofs.BreakingLemmas.{breaks_then}
use Rattle.round_run.specs.Breaking.{LogBreaks}
use Rattle.round_run.proofs.CallsLemmas.{calls_then}
use Rattle.round_run.proofs.LedLemmas.{joined, led_handed, led_none, led_then}
use Rattle.round_run.proofs.StoppedLemmas.{goes_then, handed, stopped_then}
use Rattle.round_run.specs.Calls.{AddsCalls}
use Rattle.round_run.specs.Rolling.{Goes, IsFrontPart, Stopped}
use Rattle.round_run.specs.Talking.{IsTalking}
use Rattle.round_run.proofs.round.send_all.Goals as goal

pub returns-in_err-send_one : goal.returns-in_err-send_one
returns-in_err-send_one g c = record {
  sends = record {
    rolled = search rules;
    goes = search rules;
    said = λ task kept h talking. search rules;
    stopped =
        λ task kept h talking.
        let s = c.args.session.now in
        let fault = c.in_err-send_one.field-0.0 in
        let spoken = g.H.Host.spoken c.send_one.new.host in
        let was = g.H.Host.log c.args.host.now in
        let mid = g.H.Host.log c.loop-place.host in
        let log = g.H.Host.log c.send_one.new.host in
        let stopped =
        subst (λ (x : State).
        Stopped x.version task x.pools (IsFrontPart x.entries (IsRound task x.entries x.instances))
        (x.entries ++ take c.loop-place.place x.asks) fault (g.O.Sink.taken c.loop-place.out) (g.O.Sink.taken c.send_one.new.out)
        spoken (LogBreaks task x.version x.pools (x.entries ++ take c.loop-place.place x.asks) fault mid log))
        c.loop-place.invariant.rolled.same (c.in_err-send_one.ensures.sends.stopped task kept
        (c.loop-place.invariant.kept task h) (c.loop-place.invariant.said task kept h talking).0) in
        let goes = c.loop-place.invariant.goes in
        handed c.from_residual.result fault _ c.from_residual.ensures.1
        (stopped_then s.version task s.pools spoken (IsFrontPart s.entries (IsRound task s.entries s.instances)) s.entries
        (s.entries ++ take c.loop-place.place s.asks) fault (g.O.Sink.taken c.args.out.now) (g.O.Sink.taken c.loop-place.out)
        (g.O.Sink.taken c.send_one.new.out)
        (LogBreaks task s.version s.pools s.entries fault was log)
        (LogBreaks task s.version s.pools (s.entries ++ take c.loop-place.place s.asks) fault mid log) goes
        (breaks_then task s.version s.pools (IsFrontPart s.entries (IsRound task s.entries s.instances)) s.entries
        (s.entries ++ take c.loop-place.place s.asks) fault was mid log
        (c.loop-place.invariant.said task kept h talking).1 goes.more goes.pushed) stopped);
    kept = search rules;
    running = search rules;
    causes = search rules;
    led = led_handed _ c.in_err-send_one.field-0.0 c.from_residual.result c.from_residual.ensures.1
        (led_then (joined g.H.Host g.met.H.Host.chains c.args.host.now c.loop-place.host c.send_one.new.host)
        c.loop-place.invariant.led c.in_err-send_one.ensures.sends.led);
  };
}

pub loop-place-init : goal.loop-place-init
loop-place-init g c = record {
  rolled = search rules;
  goes = search rules;
  said = search rules;
  kept = search rules;
  running = search rules;
  host = search rules;
  sink = search rules;
  led = led_none (g.met.H.Host.stays c.args.host.now);
}

pub loop-place-preserved : goal.loop-place-preserved
loop-place-preserved g c =
    let i = c.loop-place.invariant in
    let e = c.in_ok-send_one.ensures.sends in
    let new = c.send_one.new.session in
    let s = c.args.session.now in
    let place = c.loop-place.place in
    let more = subst (λ (x : State).
    Goes (x.entries ++ take place x.asks) (x.entries ++ take (place + 1) x.asks)
    (g.O.Sink.taken c.loop-place.out) (g.O.Sink.taken c.send_one.new.out)) i.rolled.same e.goes in
    record {
      rolled = record {
        same = e.rolled.same ∙ ap (λ (x : State). with_slots x new.slots new.failed) i.rolled.same;
        rolling = e.rolled.rolling;
        many = e.rolled.many ∙ i.rolled.many;
      };
      goes = goes_then s.entries (s.entries ++ take place s.asks) (s.entries ++ take (place + 1) s.asks)
          (g.O.Sink.taken c.args.out.now) (g.O.Sink.taken c.loop-place.out) (g.O.Sink.taken c.send_one.new.out) i.goes more;
      said = λ task kept h t.
          let before = i.said task kept h t in
          let later = e.said task kept (i.kept task h) before.0 in (
            later.0,
            calls_then task s.pools s.entries (s.entries ++ take place s.asks) (s.entries ++ take (place + 1) s.asks)
                (g.H.Host.log c.args.host.now) (g.H.Host.log c.loop-place.host) (g.H.Host.log c.send_one.new.host) before.1
                (subst (λ (x : State).
                AddsCalls task x.pools (x.entries ++ take place x.asks) (x.entries ++ take (place + 1) x.asks)
                (g.H.Host.log c.loop-place.host) (g.H.Host.log c.send_one.new.host)) i.rolled.same later.1),
          );
      kept = λ task h. e.kept task (i.kept task h);
      running = λ k. e.running k ∙ i.running k;
      host = omega (arith, e.causes.host.later, i.host);
      sink = omega (arith, e.causes.sink.later, i.sink);
      led = led_then (joined g.H.Host g.met.H.Host.chains c.args.host.now c.loop-place.host c.send_one.new.host) i.led e.led;
    }

pub returns : goal.returns
returns g c =
    let s = c.args.session.now in
    let all : c.loop-place.place ≡ c.args.count = omega (arith, c.loop-place.auto.place-end, c.loop-place-test.false) in
    let asks : take c.loop-place.place s.asks ≡ s.asks =
    take_all c.loop-place.place s.asks
    (omega (arith, c.loop-place.auto.place-end, c.loop-place-test.false, c.requires.count, c.requires.rolling.asks)) in
    record {
      sends = record {
        rolled = search rules;
        goes = subst (λ es. Goes s.entries (s.entries ++ es) (g.O.Sink.taken c.args.out.now) (g.O.Sink.taken c.loop-place.out)) asks
            c.loop-place.invariant.goes;
        said = λ task kept h t.
            let said = c.loop-place.invariant.said task kept h t in (
              subst (λ n. IsTalking task c.loop-place.session n 0 kept (g.H.Host.spoken c.loop-place.host)) all said.0,
              subst (λ es. AddsCalls task s.pools s.entries (s.entries ++ es) (g.H.Host.log c.args.host.now) (g.H.Host.log c.loop-place.host))
                  asks said.1,
            );
        stopped = λ task kept h t. tt;
        kept = c.loop-place.invariant.kept;
        running = c.loop-place.invariant.running;
        causes = search rules;
        led = c.loop-place.invariant.led;
      };
    }
