use Rattle.std.proofs.Common.{true}
use Rattle.gen_host.proofs.CallsLemmas.{start_runs, stays_so, stop_said}
use Rattle.gen_host.proofs.box_host.BoxHostHost.TheImpl.Goals as goal

pub start-tells : goal.start-tells
start-tells g c =
    let calls = c.ensures.calls in
    record {
      running = start_runs c.result c.args.child _ _ c.requires.idle calls.runs;
      spoken = calls.said;
      log = tt;
      cause = calls.cause;
      leads = tt;
    }

pub write-tells : goal.write-tells
write-tells g c =
    let calls = c.ensures.calls in
    record {
      count = c.ensures.count;
      running = stays_so c.args.child true _ _ c.requires.runs calls.runs;
      spoken = calls.said;
      log = tt;
      cause = calls.cause;
      leads = tt;
    }

pub read-tells : goal.read-tells
read-tells g c =
    let calls = c.ensures.calls in
    record {
      count = c.ensures.count;
      running = stays_so c.args.child true _ _ c.requires.runs calls.runs;
      spoken = calls.said;
      log = tt;
      cause = calls.cause;
      leads = tt;
    }

pub stop-tells : goal.stop-tells
stop-tells g c =
    let calls = c.ensures.calls in
    record {
      running = calls.runs;
      spoken = stop_said c.result c.args.child _ _ calls.said;
      log = tt;
      cause = calls.cause;
      leads = tt;
    }
