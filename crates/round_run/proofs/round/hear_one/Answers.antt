use Rattle.std.proofs.Common.{◌≡◌, ◌+◌, ◌++◌, ◌∷◌, [], ap, sym, subst, ◌∙◌, Some, IfSome, take, arith, length, rules, true, false}
use Rattle.std.specs.Option.{option_copied}
use Rattle.std.proofs.lemmas.Result.{IfErr-weaker}
use Rattle.lemmas.proofs.ListTests.{get_there}
use Rattle.session_core.specs.Slots.{IsAwaited}
use Rattle.transcript_model.specs.Legal.{HasNoneOpen, IsLegal}
use Rattle.transcript_model.specs.Rounds.{IsRound}
use Rattle.round_run.proofs.BreakingLemmas.{breaks_done, tells_write}
use Rattle.round_run.proofs.CallsRoundLemmas.{heard_calls}
use Rattle.round_run.proofs.CallsBrokenLemmas.{heard_off}
use Rattle.round_run.specs.Breaking.{LogBreaks}
use Rattle.round_run.proofs.CallsLemmas.{calls_one}
use Rattle.round_run.proofs.LedLemmas.{led_as, led_handed}
use Rattle.round_run.proofs.RollingPrintLemmas.{answers_legal, front_answers, round_legal}
use Rattle.round_run.proofs.RollingLemmas.{awaited_there, heard_more, printed_there, rolling_same, started_within}
use Rattle.round_run.proofs.StoppedLemmas.{blamed_listens, goes_one, handed, ok_map, on_ok, stopped_at, stopped_blamed, write_part}
use Rattle.round_run.proofs.TalkingEndLemmas.{dialogue_answered}
use Rattle.round_run.proofs.TalkingHeardLemmas.{dialogue_hearing, may_blame, talking_heard}
use Rattle.report_text.proofs.PrintsLemmas.{printed_all}
use Rattle.round_run.specs.Calls.{LogFollows}
use Rattle.round_run.specs.Open.{heard_to}
use Rattle.round_run.specs.Resting.{Rolled}
use Rattle.round_run.specs.Rolling.{IsFrontPart, finished_round}
use Rattle.round_run.specs.Talking.{Misheard, held_of}
use Rattle.round_run.proofs.round.hear_one.Goals as goal

pub hear_child-requires-clause-up : goal.hear_child-requires-clause-up
hear_child-requires-clause-up g c =
    let s = c.args.session.now in
    let there = get_there s.slots c.args.place c.requires.within in
    let is = subst (λ o. IfSome o (λ slot. (c.request-child.result.0 ≡ slot.child) × (c.request-child.result.1.now ≡ slot.request))) there.1
    c.request-child.ensures in
    let runs = ap (g.H.Host.running c.args.host.now) is.0 ∙ c.requires.rolling.runs c.args.place there.0 there.1 in
    record {
      number = omega (arith, is.0, c.requires.rolling.low c.args.place there.0 there.1);
      there = started_within c.args.lines.now.started c.request-child.result.0
          (c.requires.state c.request-child.result.0 ∙ runs);
      runs = runs;
    }

pub hear_child-requires-clause-awaits : goal.hear_child-requires-clause-awaits
hear_child-requires-clause-awaits g c =
    let s = c.args.session.now in
    let there = get_there s.slots c.args.place c.requires.within in
    let is = subst (λ o. IfSome o (λ slot. (c.request-child.result.0 ≡ slot.child) × (c.request-child.result.1.now ≡ slot.request))) there.1
    c.request-child.ensures in
    record {
      working = c.requires.rolling.working;
      awaited = subst (IsAwaited s.slots) (sym is.0) (awaited_there s (g.H.Host.running c.args.host.now)
          (length s.slots) c.args.place c.requires.rolling c.requires.within there.0 there.1);
    }

pub returns-in_err-hear_child : goal.returns-in_err-hear_child
returns-in_err-hear_child g c = record {
  hears = record {
    rolled = search rules;
    goes = search rules;
    said = λ task h talking. search rules;
    stopped =
        λ task h talking.
        let s = c.args.session.now in
        let there = get_there s.slots c.args.place c.requires.within in
        let is = subst (λ o. IfSome o (λ slot. (c.request-child.result.0 ≡ slot.child) × (c.request-child.result.1.now ≡ slot.request)))
        there.1
        c.request-child.ensures in
        let legal = round_legal task s c.requires.rolling.begun h in
        let before = s.entries ++ s.asks ++ take c.args.place (finished_round s.slots) in
        let kept = held_of c.args.lines.now in
        let old = g.H.Host.spoken c.args.host.now in
        let now = g.H.Host.spoken c.hear_child.new.host in
        let fault = c.in_err-hear_child.field-0.0 in
        let misheard = subst (λ d. Misheard s.slots d (kept d) old now fault) is.0 c.in_err-hear_child.ensures.hears.misheard in
        let front = IsFrontPart s.entries (IsRound task s.entries s.instances) in
        handed c.from_residual.result fault _ c.from_residual.ensures.1
        (stopped_blamed s.version task s.pools now front before fault
        (g.O.Sink.taken c.args.out.now)
        (LogBreaks task s.version s.pools before fault (g.H.Host.log c.args.host.now) (g.H.Host.log c.hear_child.new.host))
        (answers_legal s.version task s.entries s.asks (finished_round s.slots) c.args.place legal)
        (front_answers task s c.args.place c.requires.rolling.begun h)
        (dialogue_hearing task s (g.H.Host.running c.args.host.now) c.args.place c.requires.rolling c.requires.within there.0 there.1 kept
        old
        now
        there.0.child misheard.more c.requires.rolling.begun h talking misheard.heard)
        (heard_off task s (g.H.Host.running c.args.host.now) c.args.place c.requires.rolling c.requires.within there.0 there.1 kept old h
        talking front c.request-child.result.0 fault (g.H.Host.log c.args.host.now) (g.H.Host.log c.hear_child.new.host)
        (blamed_listens s.slots there.0.child (kept there.0.child ++ misheard.more) fault misheard.blamed) is.0
        (g.met.H.Host.spells c.args.host.now c.request-child.result.0
        (ap (g.H.Host.running c.args.host.now) is.0 ∙ c.requires.rolling.runs c.args.place there.0 there.1))
        c.in_err-hear_child.ensures.hears.refused)
        (may_blame task s (g.H.Host.running c.args.host.now) c.args.place c.requires.rolling c.requires.within there.0 there.1 kept old now
        fault c.requires.rolling.begun h legal talking misheard));
    kept = search rules;
    same =
        let s = c.args.session.now in
        let there = get_there s.slots c.args.place c.requires.within in
        let is = subst (λ o. IfSome o (λ slot. (c.request-child.result.0 ≡ slot.child) × (c.request-child.result.1.now ≡ slot.request)))
        there.1
        c.request-child.ensures in
        let running = g.H.Host.running c.args.host.now in
        let runs : running c.request-child.result.0 ≡ true = ap running is.0 ∙ c.requires.rolling.runs c.args.place there.0 there.1 in
        record {
          stays = record { started = c.hear_child.ensures.keeps.started; running = c.hear_child.ensures.hears.running };
          idle = λ k off. c.hear_child.ensures.keeps.others k
              (λ one. absurd (let bad : true ≡ false = sym runs ∙ sym (ap running one) ∙ off in cc));
        };
    causes = search rules;
    led = led_handed _ c.in_err-hear_child.field-0.0 c.from_residual.result c.from_residual.ensures.1 c.in_err-hear_child.ensures.hears.led;
  };
}

pub unreachable-requires : goal.unreachable-requires
unreachable-requires g c =
    let s = c.args.session.now in
    let there = get_there s.slots c.args.place c.requires.within in
    let is = subst (λ o. IfSome o (λ slot. (c.request-child.result.0 ≡ slot.child) × (c.request-child.result.1.now ≡ slot.request))) there.1
    c.request-child.ensures in
    let more = heard_more s (g.H.Host.running c.args.host.now) c.args.place c.request-child.result.0 c.hear_child.new.session _ _ _ _
    c.requires.rolling c.requires.within there.0 there.1 is.0 c.in_ok-hear_child.ensures.hears.taken in
    let copied = subst (λ o. IfSome o (λ slot. option_copied c.answer.result ≡ slot.answer)) more.at c.answer.ensures in
    let bad : option_copied c.answer.result ≡ Some more.entry = copied ∙ more.said in
    let none = ap option_copied c.in-None.is in
    let both = sym none ∙ bad in cc

pub returns : goal.returns
returns g c = record {
  hears = record {
    rolled =
        let s = c.args.session.now in
        let there = get_there s.slots c.args.place c.requires.within in
        let is = subst (λ o. IfSome o (λ slot. (c.request-child.result.0 ≡ slot.child) × (c.request-child.result.1.now ≡ slot.request)))
        there.1
        c.request-child.ensures in
        let more = heard_more s (g.H.Host.running c.args.host.now) c.args.place c.request-child.result.0 c.hear_child.new.session _ _ _ _
        c.requires.rolling c.requires.within there.0 there.1 is.0 c.in_ok-hear_child.ensures.hears.taken in
        let rolled : Rolled s c.hear_child.new.session (g.H.Host.running c.hear_child.new.host) (length c.hear_child.new.session.slots)
        (c.args.place + 1) = record {
          same = search rules;
          rolling = rolling_same c.hear_child.new.session (g.H.Host.running c.args.host.now)
              (g.H.Host.running c.hear_child.new.host) (length c.hear_child.new.session.slots) (c.args.place + 1)
              c.in_ok-hear_child.ensures.hears.running more.rolling;
          many = search rules;
        } in
        on_ok c.print_entry.result _ rolled;
    goes =
        let s = c.args.session.now in
        let there = get_there s.slots c.args.place c.requires.within in
        let is = subst (λ o. IfSome o (λ slot. (c.request-child.result.0 ≡ slot.child) × (c.request-child.result.1.now ≡ slot.request)))
        there.1
        c.request-child.ensures in
        let more = heard_more s (g.H.Host.running c.args.host.now) c.args.place c.request-child.result.0 c.hear_child.new.session _ _ _ _
        c.requires.rolling c.requires.within there.0 there.1 is.0 c.in_ok-hear_child.ensures.hears.taken in
        let copied = subst (λ o. IfSome o (λ slot. option_copied c.answer.result ≡ slot.answer)) more.at c.answer.ensures in
        let is_it : c.in-Some.answer.now ≡ more.entry = let both = sym (ap option_copied c.in-Some.is) ∙ copied ∙ more.said in cc in
        ok_map c.print_entry.result _ _
        (goes_one (heard_to s s.slots c.args.place) (heard_to s c.hear_child.new.session.slots (c.args.place + 1)) c.in-Some.answer.now
        (g.O.Sink.taken c.args.out.now) (g.O.Sink.taken c.print_entry.new.out)
        (more.more ∙ ap (λ es. (s.entries ++ s.asks ++ es) ++ more.entry ∷ []) more.front
        ∙ ap (λ e. heard_to s s.slots c.args.place ++ e ∷ []) (sym is_it)))
        (printed_all c.print_entry.result _ _ _ c.print_entry.ensures.told);
    said =
        λ task h talking.
        let s = c.args.session.now in
        let there = get_there s.slots c.args.place c.requires.within in
        let is = subst (λ o. IfSome o (λ slot. (c.request-child.result.0 ≡ slot.child) × (c.request-child.result.1.now ≡ slot.request)))
        there.1
        c.request-child.ensures in
        let running = g.H.Host.running c.args.host.now in
        let child = c.request-child.result.0 in
        let new = c.hear_child.new.session in
        let kept = held_of c.args.lines.now in
        let left = held_of c.hear_child.new.lines in
        let old = g.H.Host.spoken c.args.host.now in
        let now = g.H.Host.spoken c.hear_child.new.host in
        let was = g.H.Host.log c.args.host.now in
        let came = g.H.Host.log c.hear_child.new.host in
        let takes = c.in_ok-hear_child.ensures.hears.taken in
        let more = heard_more s running c.args.place child new _ _ _ _ c.requires.rolling c.requires.within there.0 there.1 is.0 takes in
        let runs = ap running is.0 ∙ c.requires.rolling.runs c.args.place there.0 there.1 in
        let later =
        talking_heard task s running c.args.place c.requires.rolling c.requires.within there.0 there.1 child new kept left old now is.0
        takes c.hear_child.ensures.keeps.others talking in
        let log = heard_calls task s running c.args.place c.requires.rolling c.requires.within there.0 there.1 new _ _ kept left old now
        more.entry child was came takes.after h (c.in_ok-hear_child.ensures.hears.kept task h) talking later
        (printed_there new.slots c.args.place more.slot more.entry more.at more.said) more.front is.0
        (g.met.H.Host.spells c.args.host.now child runs)
        (g.met.H.Host.spells c.hear_child.new.host child (c.in_ok-hear_child.ensures.hears.running child ∙ runs))
        c.in_ok-hear_child.ensures.hears.log
        in
        on_ok c.print_entry.result _ (
          later,
          calls_one task s.pools (heard_to s s.slots c.args.place) (heard_to s new.slots (c.args.place + 1)) more.entry was came
              (more.more ∙ ap (λ es. (s.entries ++ s.asks ++ es) ++ more.entry ∷ []) more.front) log,
        );
    stopped =
        λ task h talking.
        let s = c.args.session.now in
        let there = get_there s.slots c.args.place c.requires.within in
        let is = subst (λ o. IfSome o (λ slot. (c.request-child.result.0 ≡ slot.child) × (c.request-child.result.1.now ≡ slot.request)))
        there.1
        c.request-child.ensures in
        let running = g.H.Host.running c.args.host.now in
        let old = g.H.Host.spoken c.args.host.now in
        let now = g.H.Host.spoken c.hear_child.new.host in
        let new = c.hear_child.new.session in
        let takes = c.in_ok-hear_child.ensures.hears.taken in
        let more = heard_more s running c.args.place c.request-child.result.0 new _ _ _ _ c.requires.rolling c.requires.within there.0
        there.1
        is.0 takes in
        let copied = subst (λ o. IfSome o (λ slot. option_copied c.answer.result ≡ slot.answer)) more.at c.answer.ensures in
        let is_it : c.in-Some.answer.now ≡ more.entry = let both = sym (ap option_copied c.in-Some.is) ∙ copied ∙ more.said in cc in
        let before = s.entries ++ s.asks ++ take c.args.place (finished_round s.slots) in
        let legal =
        subst (λ e. IsLegal s.version task (before ++ e ∷ [])) (sym is_it) (more.legal task (c.in_ok-hear_child.ensures.hears.kept task h))
        in
        let front =
        subst (λ e. IsFrontPart s.entries (IsRound task s.entries s.instances) (before ++ e ∷ []))
        (sym is_it) (more.part task (c.in_ok-hear_child.ensures.hears.kept task h)) in
        let later =
        talking_heard task s running c.args.place c.requires.rolling c.requires.within there.0 there.1 c.request-child.result.0 new
        (held_of c.args.lines.now) (held_of c.hear_child.new.lines) old now is.0 takes c.hear_child.ensures.keeps.others talking in
        let child = c.request-child.result.0 in
        let was = g.H.Host.log c.args.host.now in
        let came = g.H.Host.log c.hear_child.new.host in
        let runs = ap running is.0 ∙ c.requires.rolling.runs c.args.place there.0 there.1 in
        let spells = g.met.H.Host.spells c.args.host.now child runs in
        let follows =
        heard_calls task s running c.args.place c.requires.rolling c.requires.within there.0 there.1 new _ _ (held_of c.args.lines.now)
        (held_of c.hear_child.new.lines) old now more.entry child was came takes.after h (c.in_ok-hear_child.ensures.hears.kept task h)
        talking later (printed_there new.slots c.args.place more.slot more.entry more.at more.said) more.front is.0
        spells (g.met.H.Host.spells c.hear_child.new.host child (c.in_ok-hear_child.ensures.hears.running child ∙ runs))
        c.in_ok-hear_child.ensures.hears.log in
        IfErr-weaker c.print_entry.result _ _ (λ fault misses.
        stopped_at s.version task s.pools now (IsFrontPart s.entries (IsRound task s.entries s.instances)) before c.in-Some.answer.now fault
        (g.O.Sink.taken c.args.out.now) (g.O.Sink.taken c.print_entry.new.out) (LogBreaks task s.version s.pools before fault was came)
        legal front
        (dialogue_answered task s new c.args.place (held_of c.hear_child.new.lines) now c.in-Some.answer.now c.requires.rolling.begun
        (c.in_ok-hear_child.ensures.hears.kept task h) _ _ takes.after
        (more.more ∙ ap (λ es. (s.entries ++ s.asks ++ es) ++ more.entry ∷ []) more.front ∙ ap (λ e. before ++ e ∷ []) (sym is_it)) later)
        (λ is_write. breaks_done task s.version s.pools (IsFrontPart s.entries (IsRound task s.entries s.instances))
        before (c.in-Some.answer.now ∷ []) fault was came
        (tells_write (HasNoneOpen (before ++ c.in-Some.answer.now ∷ [])) fault is_write)
        (subst (λ e. LogFollows task s.pools before (e ∷ []) was came) (sym is_it) follows))
        misses) (write_part c.print_entry.result _ _ _ c.print_entry.ensures.told c.print_entry.ensures.only);
    kept = search rules;
    same =
        let s = c.args.session.now in
        let there = get_there s.slots c.args.place c.requires.within in
        let is = subst (λ o. IfSome o (λ slot. (c.request-child.result.0 ≡ slot.child) × (c.request-child.result.1.now ≡ slot.request)))
        there.1
        c.request-child.ensures in
        let running = g.H.Host.running c.args.host.now in
        let runs : running c.request-child.result.0 ≡ true = ap running is.0 ∙ c.requires.rolling.runs c.args.place there.0 there.1 in
        record {
          stays = record { started = c.hear_child.ensures.keeps.started; running = c.hear_child.ensures.hears.running };
          idle = λ k off. c.hear_child.ensures.keeps.others k
              (λ one. absurd (let bad : true ≡ false = sym runs ∙ sym (ap running one) ∙ off in cc));
        };
    causes = search rules;
    led = led_as c.in_ok-hear_child.ensures.hears.led;
  };
}
