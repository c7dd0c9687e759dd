use Rattle.std.proofs.Common.{◌≡◌, ◌<◌, ◌≤◌, ℕ, false}
use Rattle.round_run.proofs.lines.Lines.stop_all.Given as goal
use Rattle.io_world.specs.Talks.{Same}
use Rattle.round_run.specs.Calls.{LogStops}
use Rattle.round_run.specs.Held.{is_child_running}

-- the first children don't run, and the others run as they did
abbrev pub invariant-loop-child : goal.invariant-loop-child
invariant-loop-child g l = record {
  stopped : (k : ℕ) → k < l.child → g.H.Host.running l.host k ≡ false;
  others : (k : ℕ) → l.child ≤ k → g.H.Host.running l.host k ≡ is_child_running l.self k;
  most : l.child ≤ 17;
  none : ((k : ℕ) → g.H.Host.running l.initial.host k ≡ false)
      → l.host ≡ l.initial.host;
  stops : LogStops (g.H.Host.log l.initial.host) (g.H.Host.log l.host);
  spoken : Same (g.H.Host.spoken l.initial.host) (g.H.Host.spoken l.host);
  host : g.H.Host.faults l.initial.host ≤ g.H.Host.faults l.host;
  leads : g.H.Host.leads l.initial.host l.host false;
}
