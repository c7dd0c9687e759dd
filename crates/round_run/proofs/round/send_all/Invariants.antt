use Rattle.std.proofs.Common.{◌++◌, ◌≤◌, ℕ, List, take, false}
use Rattle.io_world.specs.Talks.{Same}
use Rattle.session_core.specs.Session.{IsSession}
use Rattle.task_model.specs.declared.task.Task.{Task}
use Rattle.round_run.proofs.round.send_all.Given as goal
use Rattle.round_run.specs.Calls.{AddsCalls}
use Rattle.io_world.specs.Leads.{IsLed}
use Rattle.round_run.specs.Resting.{Rolled}
use Rattle.round_run.specs.Rolling.{Goes}
use Rattle.round_run.specs.Talking.{IsTalking}

-- so many requests are sent and written
abbrev pub invariant-loop-place : goal.invariant-loop-place
invariant-loop-place g l = record {
  rolled : Rolled l.initial.session l.session (g.H.Host.running l.host) l.place 0;
  goes : Goes l.initial.session.entries (l.initial.session.entries ++ take l.place l.initial.session.asks)
      (g.O.Sink.taken l.initial.out) (g.O.Sink.taken l.out);
  said : (task : Task) (kept : ℕ → List ℕ) → IsSession task l.initial.session
      → IsTalking task l.initial.session 0 0 kept (g.H.Host.spoken l.initial.host)
      → IsTalking task l.session l.place 0 kept (g.H.Host.spoken l.host)
      × AddsCalls task l.initial.session.pools l.initial.session.entries
      (l.initial.session.entries ++ take l.place l.initial.session.asks) (g.H.Host.log l.initial.host) (g.H.Host.log l.host);
  kept : (task : Task) → IsSession task l.initial.session → IsSession task l.session;
  running : Same (g.H.Host.running l.initial.host) (g.H.Host.running l.host);
  host : g.H.Host.faults l.initial.host ≤ g.H.Host.faults l.host;
  sink : g.O.Sink.faults l.initial.out ≤ g.O.Sink.faults l.out;
  led : IsLed (g.H.Host.leads l.initial.host l.host) false;
}
