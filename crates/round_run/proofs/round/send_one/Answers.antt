use Rattle.std.proofs.Common.{◌≡◌, ◌+◌, ◌++◌, ◌∷◌, [], ap, sym, subst, ◌∙◌, slice_get, Some, IfSome, take, arith, rules, length}
use Rattle.std.proofs.lemmas.List.{length-map}
use Rattle.std.proofs.lemmas.Result.{IfErr-weaker}
use Rattle.lemmas.proofs.ListTests.{get_there}
use Rattle.session_core.specs.Session.{IsSession}
use Rattle.session_core.specs.Slots.{IsUnsent, at_child, sent_slot}
use Rattle.session_core.specs.State.{State, after_sent}
use Rattle.transcript_model.specs.Rounds.{IsRound}
use Rattle.round_run.proofs.BreakingLemmas.{breaks_done, tells_write}
use Rattle.round_run.proofs.CallsRoundLemmas.{sent_calls}
use Rattle.round_run.proofs.CallsBrokenLemmas.{sent_part}
use Rattle.round_run.specs.Breaking.{LogBreaks}
use Rattle.transcript_model.specs.Legal.{HasNoneOpen}
use Rattle.round_run.proofs.CallsLemmas.{calls_one}
use Rattle.round_run.proofs.LedLemmas.{led_as, led_handed}
use Rattle.round_run.proofs.RollingPrintLemmas.{asks_legal, front_asks, one_more, round_legal}
use Rattle.round_run.proofs.RollingLemmas.{rolling_same, rolling_sent, unsent_there}
use Rattle.round_run.proofs.StoppedLemmas.{goes_one, handed, ok_map, on_ok, stopped_at, stopped_sending, write_part}
use Rattle.round_run.proofs.TalkingRoundLemmas.{broken_part, dialogue_after, next_front, next_legal, talking_sent_by}
use Rattle.report_text.proofs.PrintsLemmas.{printed_all}
use Rattle.round_run.specs.Resting.{Rolled}
use Rattle.round_run.specs.Rolling.{IsFrontPart, IsRolling, finished_round}
use Rattle.round_run.specs.Talking.{IsTalking}
use Rattle.round_run.proofs.round.send_one.Goals as goal

pub sent-requires-clause-unsent : goal.sent-requires-clause-unsent
sent-requires-clause-unsent g c =
    let s = c.args.session.now in
    let there = get_there s.slots c.args.place c.requires.within in
    let is = subst (λ o. IfSome o (λ slot. (c.request-child.result.0 ≡ slot.child) × (c.request-child.result.1.now ≡ slot.request))) there.1
    c.request-child.ensures in
    subst (IsUnsent s.slots) (sym is.0) (unsent_there s (g.H.Host.running c.args.host.now) c.args.place c.requires.rolling there.0 there.1)

pub returns-in_err-send : goal.returns-in_err-send
returns-in_err-send g c = record {
  sends = record {
    rolled = search rules;
    goes = search rules;
    said = λ task kept h talking. search rules;
    stopped =
        λ task kept h talking.
        let s = c.args.session.now in
        let there = get_there s.slots c.args.place c.requires.within in
        let is = subst (λ o. IfSome o (λ slot. (c.request-child.result.0 ≡ slot.child) × (c.request-child.result.1.now ≡ slot.request)))
        there.1
        c.request-child.ensures in
        let ask = get_there s.asks c.args.place (omega (arith, c.requires.within, c.requires.rolling.asks)) in
        let opened = c.requires.rolling.begun in
        let part = c.in_err-send.ensures.sends.part in
        let fault = c.in_err-send.field-0.0 in
        handed c.from_residual.result fault _ c.from_residual.ensures.1
        (stopped_sending s.version task s.pools (g.H.Host.spoken c.send.new.host) (IsFrontPart s.entries (IsRound task s.entries
        s.instances))
        (s.entries ++ take c.args.place s.asks) fault (g.O.Sink.taken c.args.out.now)
        (LogBreaks task s.version s.pools (s.entries ++ take c.args.place s.asks) fault
        (g.H.Host.log c.args.host.now) (g.H.Host.log c.send.new.host))
        (asks_legal s.version task s.entries s.asks (finished_round s.slots) c.args.place (round_legal task s opened h))
        (front_asks task s c.args.place opened h)
        (broken_part task s c.args.place kept (g.H.Host.spoken c.args.host.now) (g.H.Host.spoken c.send.new.host) there.0 there.1 ask.0
        ask.1
        opened h talking fault c.request-child.result.0 c.request-child.result.1.now part.0 c.in_err-send.ensures.sends.only is.0 is.1
        part.1)
        (sent_part task s c.args.place kept (g.H.Host.spoken c.args.host.now) there.0 there.1 ask.0 ask.1 opened h talking
        c.request-child.result.0 c.request-child.result.1.now fault (g.H.Host.log c.args.host.now)
        (g.H.Host.log c.send.new.host) c.in_err-send.ensures.sends.only is.0 is.1 c.in_err-send.ensures.sends.refused)
        c.in_err-send.ensures.sends.only);
    kept = search rules;
    running = search rules;
    causes = search rules;
    led = led_handed _ c.in_err-send.field-0.0 c.from_residual.result c.from_residual.ensures.1 c.in_err-send.ensures.sends.led;
  };
}

pub returns : goal.returns
returns g c = record {
  sends = record {
    rolled =
        let s = c.args.session.now in
        let there = get_there s.slots c.args.place c.requires.within in
        let is = subst (λ o. IfSome o (λ slot. (c.request-child.result.0 ≡ slot.child) × (c.request-child.result.1.now ≡ slot.request)))
        there.1
        c.request-child.ensures in
        let after : c.sent.new.self ≡ after_sent s there.0.child = c.sent.ensures.after ∙ ap (after_sent s) is.0 in
        let rolled : Rolled s c.sent.new.self (g.H.Host.running c.send.new.host) (c.args.place + 1) 0 = record {
          same = search rules;
          rolling = subst (λ (x : State). IsRolling x (g.H.Host.running c.send.new.host) (c.args.place + 1) 0) (sym after)
              (rolling_same (after_sent s there.0.child) (g.H.Host.running c.args.host.now) (g.H.Host.running c.send.new.host)
              (c.args.place + 1) 0 c.in_ok-send.ensures.sends.running
              (rolling_sent s (g.H.Host.running c.args.host.now) c.args.place c.requires.rolling there.0 there.1));
          many = ap (λ (x : State). length x.slots) after ∙ length-map s.slots (at_child there.0.child sent_slot);
        } in
        on_ok c.print_entry.result _ rolled;
    goes =
        let s = c.args.session.now in
        let at : slice_get s.asks c.args.place ≡ Some c.ask.result.now =
        ap (λ (x : State). slice_get x.asks c.args.place) (sym c.sent.ensures.after) ∙ c.ask.ensures in
        ok_map c.print_entry.result _ _ (goes_one (s.entries ++ take c.args.place s.asks) (s.entries ++ take (c.args.place + 1) s.asks)
        c.ask.result.now (g.O.Sink.taken c.args.out.now) (g.O.Sink.taken c.print_entry.new.out)
        (one_more s.entries s.asks c.args.place c.ask.result.now at)) (printed_all c.print_entry.result _ _ _ c.print_entry.ensures.told);
    said =
        λ task kept h talking.
        let s = c.args.session.now in
        let there = get_there s.slots c.args.place c.requires.within in
        let is = subst (λ o. IfSome o (λ slot. (c.request-child.result.0 ≡ slot.child) × (c.request-child.result.1.now ≡ slot.request)))
        there.1
        c.request-child.ensures in
        let after : c.sent.new.self ≡ after_sent s there.0.child = c.sent.ensures.after ∙ ap (after_sent s) is.0 in
        let at : slice_get s.asks c.args.place ≡ Some c.ask.result.now =
        ap (λ (x : State). slice_get x.asks c.args.place) (sym c.sent.ensures.after) ∙ c.ask.ensures in
        let was = g.H.Host.log c.args.host.now in
        let now = g.H.Host.log c.send.new.host in
        on_ok c.print_entry.result _ (
          subst (λ (x : State). IsTalking task x (c.args.place + 1) 0 kept (g.H.Host.spoken c.send.new.host)) (sym after)
              (talking_sent_by task s c.args.place kept (g.H.Host.spoken c.args.host.now)
              (g.H.Host.spoken c.send.new.host) there.0 there.1 talking
              c.request-child.result.0 c.request-child.result.1.now is.0 is.1 c.in_ok-send.ensures.sends.all),
          calls_one task s.pools (s.entries ++ take c.args.place s.asks)
              (s.entries ++ take (c.args.place + 1) s.asks) c.ask.result.now was now
              (one_more s.entries s.asks c.args.place c.ask.result.now at)
              (sent_calls task s c.args.place kept
              (g.H.Host.spoken c.args.host.now) there.0 there.1 c.ask.result.now at c.requires.rolling.begun h
              talking c.request-child.result.0 c.request-child.result.1.now was now is.0 is.1 c.in_ok-send.ensures.sends.log),
        );
    stopped =
        λ task kept h talking.
        let s = c.args.session.now in
        let there = get_there s.slots c.args.place c.requires.within in
        let is = subst (λ o. IfSome o (λ slot. (c.request-child.result.0 ≡ slot.child) × (c.request-child.result.1.now ≡ slot.request)))
        there.1
        c.request-child.ensures in
        let opened = c.requires.rolling.begun in
        let now = g.H.Host.spoken c.send.new.host in
        let was = g.H.Host.log c.args.host.now in
        let log = g.H.Host.log c.send.new.host in
        let before = g.H.Host.spoken c.args.host.now in
        let at : slice_get s.asks c.args.place ≡ Some c.ask.result.now =
        ap (λ (x : State). slice_get x.asks c.args.place) (sym c.sent.ensures.after) ∙ c.ask.ensures in
        let after : c.sent.new.self ≡ after_sent s there.0.child = c.sent.ensures.after ∙ ap (after_sent s) is.0 in
        let h_after : IsSession task (after_sent s there.0.child) = subst (IsSession task) after (c.sent.ensures.kept task h) in
        IfErr-weaker c.print_entry.result _ _ (λ fault misses.
        stopped_at s.version task s.pools now (IsFrontPart s.entries (IsRound task s.entries s.instances))
        (s.entries ++ take c.args.place s.asks) c.ask.result.now fault (g.O.Sink.taken c.args.out.now)
        (g.O.Sink.taken c.print_entry.new.out) (LogBreaks task s.version s.pools (s.entries ++ take c.args.place s.asks) fault was log)
        (next_legal task s c.args.place kept before now there.0 there.1 c.ask.result.now at opened h talking)
        (next_front task s c.args.place kept before now there.0 there.1 c.ask.result.now at opened h talking)
        (dialogue_after task s c.args.place kept before now there.0 there.1 c.ask.result.now at opened h talking c.request-child.result.0
        c.request-child.result.1.now is.0 is.1 c.in_ok-send.ensures.sends.all h_after)
        (λ is_write. breaks_done task s.version s.pools (IsFrontPart s.entries (IsRound task s.entries s.instances))
        (s.entries ++ take c.args.place s.asks) (c.ask.result.now ∷ []) fault was log
        (tells_write (HasNoneOpen ((s.entries ++ take c.args.place s.asks) ++ c.ask.result.now ∷ [])) fault is_write)
        (sent_calls task s c.args.place kept before there.0 there.1 c.ask.result.now at opened h talking c.request-child.result.0
        c.request-child.result.1.now was log is.0 is.1 c.in_ok-send.ensures.sends.log))
        misses) (write_part c.print_entry.result _ _ _ c.print_entry.ensures.told c.print_entry.ensures.only);
    kept = search rules;
    running = search rules;
    causes = search rules;
    led = led_as c.in_ok-send.ensures.sends.led;
  };
}
