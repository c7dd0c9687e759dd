use Rattle.std.proofs.Common.{◌≡◌, ◌-◌, ◌≤◌, false, length, take, drop}
use Rattle.io_world.specs.Talks.{Same, Hears, LogsGiven}
use Rattle.io_world.proofs.conversation.hear_line.Given as goal

abbrev pub invariant-loop-filled : goal.invariant-loop-filled
invariant-loop-filled g l = record {
  above : l.held ≤ l.filled;
  within : l.filled ≤ length l.room;
  kept : take l.held l.room ≡ take l.held l.initial.room;
  running : Same (g.H.Host.running l.initial.host) (g.H.Host.running l.host);
  spoken : Hears l.child (drop l.held (take l.filled l.room)) (g.H.Host.spoken l.initial.host) (g.H.Host.spoken l.host);
  log : LogsGiven l.child (take l.held l.initial.room) (drop l.held (take l.filled l.room))
      (g.H.Host.log l.initial.host) (g.H.Host.log l.host);
  leads : g.H.Host.leads l.initial.host l.host false;
  later : g.H.Host.faults l.initial.host ≤ g.H.Host.faults l.host;
}

abbrev pub decreases-loop-filled : goal.decreases-loop-filled
decreases-loop-filled g l = length l.room - l.filled
