use Rattle.std.proofs.lemmas.Grind.{common_steps}
use Rattle.std.proofs.Common.{rules, ℕ, ◌≡◌, ◌+◌, ap, arith, length, sym, take, ◌∙◌}
use Rattle.gen_lines.specs.Lines.{lines_of}
use Rattle.round_run.proofs.LedLemmas.{led_none, led_refused}
use Rattle.round_run.proofs.TalkingLineLemmas.{filled}
use Rattle.round_run.proofs.child.fill.Goals as goal

pub returns-in-Ok : goal.returns-in-Ok
returns-in-Ok g c = record {
  fills = record {
    running = search rules;
    heard = record {
      more = take c.in-Ok.count c.hear_line.new.room;
      heard = c.in-Ok.ensures.spoken;
      rest = c.push.ensures;
      full = λ none.
          let long : length c.hear_line.new.room ≡ c.room.result = first_of (search rules, grind (arith, common_steps)) in
          let whole : length c.hear_line.new.room + length c.args.buffer.now ≡ 1025 = omega (arith, c.room.ensures, long) in
          ap length c.push.ensures
          ∙ filled c.args.buffer.now c.hear_line.new.room c.in-Ok.count 1025 whole c.in-Ok.ensures.room.count.1 c.in-Ok.ensures.room.line
          (ap lines_of (sym c.push.ensures) ∙ none);
    };
    lost = tt;
    log = search rules;
    refused = tt;
    only = tt;
    cause = search rules;
    led = led_none c.in-Ok.ensures.leads;
  };
}

pub returns-in-Err : goal.returns-in-Err
returns-in-Err g c = record {
  fills = record {
    running = search rules;
    heard = tt;
    lost = search rules;
    log = tt;
    refused = search rules;
    only = search rules;
    cause = search rules;
    led = led_refused ℕ _ c.in-Err.fault c.fault_of.result c.fault_of.ensures c.in-Err.ensures.leads;
  };
}
