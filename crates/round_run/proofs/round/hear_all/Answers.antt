use Rattle.std.proofs.Common.{◌+◌, ◌++◌, ap, subst, take, ◌∙◌, arith, rules}
use Rattle.session_core.specs.State.{State, with_slots}
use Rattle.transcript_model.specs.Rounds.{IsRound}
use Rattle.round_run.proofs.BreakingLemmas.{breaks_then}
use Rattle.round_run.specs.Breaking.{LogBreaks}
use Rattle.round_run.proofs.CallsLemmas.{calls_then}
use Rattle.round_run.proofs.LedLemmas.{joined, led_handed, led_none, led_then}
use Rattle.round_run.proofs.StoppedLemmas.{goes_then, handed, stopped_then}
use Rattle.round_run.specs.Calls.{AddsCalls}
use Rattle.round_run.specs.Open.{heard_to}
use Rattle.round_run.specs.Rolling.{Goes, IsFrontPart, Stopped, finished_round}
use Rattle.round_run.proofs.round.hear_all.Goals as goal

pub returns-in_err-hear_one : goal.returns-in_err-hear_one
returns-in_err-hear_one g c = record {
  hears = record {
    rolled = search rules;
    goes = search rules;
    said = λ task h talking. search rules;
    stopped =
        λ task h talking.
        let s = c.args.session.now in
        let now = c.loop-place.session in
        let fault = c.in_err-hear_one.field-0.0 in
        let spoken = g.H.Host.spoken c.hear_one.new.host in
        let was = g.H.Host.log c.args.host.now in
        let mid = g.H.Host.log c.loop-place.host in
        let log = g.H.Host.log c.hear_one.new.host in
        let b = s.entries ++ s.asks ++ take c.loop-place.place (finished_round now.slots) in
        let stopped =
        subst (λ (x : State).
        Stopped x.version task x.pools (IsFrontPart x.entries (IsRound task x.entries x.instances))
        (x.entries ++ x.asks ++ take c.loop-place.place (finished_round now.slots)) fault (g.O.Sink.taken c.loop-place.out)
        (g.O.Sink.taken c.hear_one.new.out) spoken
        (LogBreaks task x.version x.pools (x.entries ++ x.asks ++ take c.loop-place.place (finished_round now.slots)) fault mid log))
        c.loop-place.invariant.rolled.same
        (c.in_err-hear_one.ensures.hears.stopped task (c.loop-place.invariant.kept task h) (c.loop-place.invariant.said task h talking).0)
        in
        let goes = c.loop-place.invariant.goes in
        handed c.from_residual.result fault _ c.from_residual.ensures.1
        (stopped_then s.version task s.pools spoken (IsFrontPart s.entries (IsRound task s.entries s.instances))
        (s.entries ++ s.asks) b fault (g.O.Sink.taken c.args.out.now) (g.O.Sink.taken c.loop-place.out) (g.O.Sink.taken c.hear_one.new.out)
        (LogBreaks task s.version s.pools (s.entries ++ s.asks) fault was log) (LogBreaks task s.version s.pools b fault mid log) goes
        (breaks_then task s.version s.pools (IsFrontPart s.entries (IsRound task s.entries s.instances))
        (s.entries ++ s.asks) b fault was mid log
        (c.loop-place.invariant.said task h talking).1 goes.more goes.pushed) stopped);
    kept = search rules;
    same = search rules;
    causes = search rules;
    led = led_handed _ c.in_err-hear_one.field-0.0 c.from_residual.result c.from_residual.ensures.1
        (led_then (joined g.H.Host g.met.H.Host.chains c.args.host.now c.loop-place.host c.hear_one.new.host)
        c.loop-place.invariant.led c.in_err-hear_one.ensures.hears.led);
  };
}

pub loop-place-init : goal.loop-place-init
loop-place-init g c = record {
  rolled = search rules;
  goes = search rules;
  said = search rules;
  kept = search rules;
  same = search rules;
  host = search rules;
  sink = search rules;
  led = led_none (g.met.H.Host.stays c.args.host.now);
}

pub loop-place-preserved : goal.loop-place-preserved
loop-place-preserved g c =
    let i = c.loop-place.invariant in
    let e = c.in_ok-hear_one.ensures.hears in
    let old = c.loop-place.session in
    let new = c.hear_one.new.session in
    let s = c.args.session.now in
    let place = c.loop-place.place in
    let goes = subst (λ (x : State). Goes (heard_to x old.slots place) (heard_to x new.slots (place + 1))
    (g.O.Sink.taken c.loop-place.out) (g.O.Sink.taken c.hear_one.new.out)) i.rolled.same e.goes in
    record {
      rolled = record {
        same = e.rolled.same ∙ ap (λ (x : State). with_slots x new.slots new.failed) i.rolled.same;
        rolling = e.rolled.rolling;
        many = e.rolled.many ∙ i.rolled.many;
      };
      goes = goes_then (s.entries ++ s.asks) (s.entries ++ s.asks ++ take place (finished_round old.slots))
          (s.entries ++ s.asks ++ take (place + 1) (finished_round new.slots)) (g.O.Sink.taken c.args.out.now) (g.O.Sink.taken c.loop-place.out)
          (g.O.Sink.taken c.hear_one.new.out) i.goes goes;
      said = λ task h t.
          let before = i.said task h t in
          let later = e.said task (i.kept task h) before.0 in
          let came = subst (λ (x : State). AddsCalls task x.pools (heard_to x old.slots place) (heard_to x new.slots (place + 1))
          (g.H.Host.log c.loop-place.host) (g.H.Host.log c.hear_one.new.host)) i.rolled.same later.1 in (
            later.0,
            calls_then task s.pools (s.entries ++ s.asks) (s.entries ++ s.asks ++ take place (finished_round old.slots))
                (s.entries ++ s.asks ++ take (place + 1) (finished_round new.slots))
                (g.H.Host.log c.args.host.now) (g.H.Host.log c.loop-place.host)
                (g.H.Host.log c.hear_one.new.host) before.1 came,
          );
      kept = λ task h. e.kept task (i.kept task h);
      same = record {
        stays = record {
          started = e.same.stays.started ∙ i.same.stays.started;
          running = λ k. e.same.stays.running k ∙ i.same.stays.running k;
        };
        idle = λ k off. e.same.idle k (i.same.stays.running k ∙ off) ∙ i.same.idle k off;
      };
      host = omega (arith, e.causes.host.later, i.host);
      sink = omega (arith, e.causes.sink.later, i.sink);
      led = led_then (joined g.H.Host g.met.H.Host.chains c.args.host.now c.loop-place.host c.hear_one.new.host) i.led e.led;
    }
