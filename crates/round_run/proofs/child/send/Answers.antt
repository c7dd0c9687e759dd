use Rattle.std.proofs.Common.{rules}
use Rattle.round_run.proofs.LedLemmas.{led_none, led_refused}
use Rattle.round_run.proofs.child.send.Goals as goal

pub returns-in-Ok : goal.returns-in-Ok
returns-in-Ok g c = record {
  sends = record {
    running = search rules;
    all = search rules;
    part = tt;
    log = search rules;
    refused = tt;
    only = tt;
    cause = search rules;
    led = led_none c.in-Ok.ensures.leads;
  };
}

pub returns-in-Err : goal.returns-in-Err
returns-in-Err g c = record {
  sends = record {
    running = search rules;
    all = tt;
    part = search rules;
    log = tt;
    refused = search rules;
    only = search rules;
    cause = search rules;
    led = led_refused (Unit {0}) _ c.in-Err.fault c.fault_of.result c.fault_of.ensures c.in-Err.ensures.leads;
  };
}
