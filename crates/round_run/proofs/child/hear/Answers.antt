use Rattle.std.proofs.Common.{rules, ◌∙◌, ap}
use Rattle.std.proofs.lemmas.Result.{IfErr-weaker}
use Rattle.gen_lines.specs.declared.answer.Why.TheVariants.{TooLong}
use Rattle.session_core.specs.Heard.{number_at}
use Rattle.gen_lines.specs.Lines.{left_after}
use Rattle.round_run.proofs.BreakingLemmas.{hears_given, hears_none, hears_refused, tells_blamed, tells_refused}
use Rattle.round_run.proofs.CallsRoundLemmas.{reads_given}
use Rattle.round_run.proofs.LedLemmas.{led_as, led_handed, led_none}
use Rattle.round_run.proofs.TalkingLineLemmas.{takes_kept, too_long_kept}
use Rattle.round_run.proofs.StoppedLemmas.{handed, on_ok}
use Rattle.round_run.proofs.child.hear.Goals as goal

pub returns-in-Line : goal.returns-in-Line
returns-in-Line g c = record {
  hears = record {
    taken = takes_kept c.take_line.result c.args.session.now c.take_line.new.session c.args.child c.args.buffer.now
        c.next_line.follows.lender-at-none c.in-Line.line.now (g.H.Host.spoken c.args.host.now) c.take_line.ensures.takes.taken
        c.take_line.ensures.takes.good c.in-Line.ensures.shown.0 c.in-Line.ensures.short
        (c.next_line.follows.holds-at-none ∙ ap (left_after c.args.buffer.now) c.in-Line.is);
    misheard = search rules;
    log = search rules;
    refused = IfErr-weaker c.take_line.result _ _ (λ fault is.
        hears_none c.args.child c.args.buffer.now fault
        (g.H.Host.log c.args.host.now) (tells_refused c.args.session.now.slots c.args.child c.in-Line.line.now fault is))
        c.take_line.ensures.takes.refused;
    kept = search rules;
    running = search rules;
    cause = search rules;
    led = led_none (g.met.H.Host.stays c.args.host.now);
  };
}

pub returns-in-TooLong : goal.returns-in-TooLong
returns-in-TooLong g c = record {
  hears = record {
    taken = tt;
    misheard = too_long_kept c.args.session.now.slots c.args.child c.args.buffer.now (g.H.Host.spoken c.args.host.now)
        c.take_too_long.result c.take_too_long.ensures.blamed c.in-TooLong.ensures.shown.0 c.in-TooLong.ensures.shown.1;
    log = tt;
    refused = hears_none c.args.child c.args.buffer.now c.take_too_long.result (g.H.Host.log c.args.host.now)
        (tells_blamed (number_at c.args.session.now.slots c.args.child) TooLong c.take_too_long.result c.take_too_long.ensures.blamed);
    kept = search rules;
    running = search rules;
    cause = search rules;
    led = led_none (g.met.H.Host.stays c.args.host.now);
  };
}

pub returns-in_err-fill : goal.returns-in_err-fill
returns-in_err-fill g c = record {
  hears = record {
    taken = search rules;
    misheard = search rules;
    log = search rules;
    refused =
        let fault = c.in_err-fill.field-0.0 in
        handed c.from_residual.result fault _ c.from_residual.ensures.1
        (hears_refused c.args.child c.args.buffer.now fault (g.H.Host.log c.args.host.now)
        (g.H.Host.log c.fill.new.host) c.in-Part.ensures.shown.0 c.in_err-fill.ensures.fills.refused);
    kept = search rules;
    running = search rules;
    cause = search rules;
    led = led_handed _ c.in_err-fill.field-0.0 c.from_residual.result c.from_residual.ensures.1 c.in_err-fill.ensures.fills.led;
  };
}

pub returns-in-Line-next_line : goal.returns-in-Line-next_line
returns-in-Line-next_line g c =
    let log = c.in_ok-fill.ensures.fills.log in
    record {
      hears = record {
        taken = search rules;
        misheard = search rules;
        log = on_ok c.take_line-in-Line-next_line.result _
            (reads_given c.args.child c.args.buffer.now log.0 (g.H.Host.log c.args.host.now)
            (g.H.Host.log c.fill.new.host) c.in-Part.ensures.shown.0 log.1);
        refused = IfErr-weaker c.take_line-in-Line-next_line.result _ _
            (λ fault is. hears_given c.args.child c.args.buffer.now log.0 fault (g.H.Host.log c.args.host.now)
            (g.H.Host.log c.fill.new.host) c.in-Part.ensures.shown.0
            (tells_refused c.args.session.now.slots c.args.child c.in-Line-next_line.line.now fault is) log.1)
            c.take_line-in-Line-next_line.ensures.takes.refused;
        kept = search rules;
        running = search rules;
        cause = search rules;
        led = led_as c.in_ok-fill.ensures.fills.led;
      };
    }

pub returns-in-Part-next_line : goal.returns-in-Part-next_line
returns-in-Part-next_line g c =
    let log = c.in_ok-fill.ensures.fills.log in
    let fault = c.take_too_long-in-Part-next_line.result in
    record {
      hears = record {
        taken = tt;
        misheard = search rules;
        log = tt;
        refused = hears_given c.args.child c.args.buffer.now log.0 fault (g.H.Host.log c.args.host.now) (g.H.Host.log c.fill.new.host)
            c.in-Part.ensures.shown.0
            (tells_blamed (number_at c.args.session.now.slots c.args.child) TooLong fault c.take_too_long-in-Part-next_line.ensures.blamed)
            log.1;
        kept = search rules;
        running = search rules;
        cause = search rules;
        led = led_as c.in_ok-fill.ensures.fills.led;
      };
    }
