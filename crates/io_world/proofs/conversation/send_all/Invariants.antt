use Rattle.std.proofs.Common.{◌-◌, ◌≤◌, false, length, take}
use Rattle.io_world.specs.Talks.{Same, Writes, LogsTaken}
use Rattle.io_world.proofs.conversation.send_all.Given as goal

abbrev pub invariant-loop-done : goal.invariant-loop-done
invariant-loop-done g l = record {
  within : l.done ≤ length l.bytes;
  running : Same (g.H.Host.running l.initial.host) (g.H.Host.running l.host);
  spoken : Writes l.child (take l.done l.bytes) (g.H.Host.spoken l.initial.host) (g.H.Host.spoken l.host);
  log : LogsTaken l.child (take l.done l.bytes) (g.H.Host.log l.initial.host) (g.H.Host.log l.host);
  leads : g.H.Host.leads l.initial.host l.host false;
  later : g.H.Host.faults l.initial.host ≤ g.H.Host.faults l.host;
}

abbrev pub decreases-loop-done : goal.decreases-loop-done
decreases-loop-done g l = length l.bytes - l.done
