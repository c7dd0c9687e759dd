use Rattle.std.proofs.Common.{◌++◌, ◌≤◌, length, take, false}
use Rattle.session_core.specs.Session.{IsSession}
use Rattle.task_model.specs.declared.task.Task.{Task}
use Rattle.round_run.proofs.round.hear_all.Given as goal
use Rattle.round_run.specs.Calls.{AddsCalls}
use Rattle.io_world.specs.Leads.{IsLed}
use Rattle.round_run.specs.Resting.{Rolled, StaysIdle}
use Rattle.round_run.specs.Rolling.{Goes, finished_round}
use Rattle.round_run.specs.Talking.{IsTalking, held_of}

-- so many answers are heard and written
abbrev pub invariant-loop-place : goal.invariant-loop-place
invariant-loop-place g l = record {
  rolled : Rolled l.initial.session l.session (g.H.Host.running l.host) (length l.session.slots) l.place;
  goes : Goes (l.initial.session.entries ++ l.initial.session.asks)
      (l.initial.session.entries ++ l.initial.session.asks ++ take l.place (finished_round l.session.slots)) (g.O.Sink.taken l.initial.out)
      (g.O.Sink.taken l.out);
  said : (task : Task) → IsSession task l.initial.session
      → IsTalking task l.initial.session (length l.initial.session.slots) 0 (held_of l.initial.lines) (g.H.Host.spoken l.initial.host)
      → IsTalking task l.session (length l.session.slots) l.place (held_of l.lines) (g.H.Host.spoken l.host)
      × AddsCalls task l.initial.session.pools (l.initial.session.entries ++ l.initial.session.asks)
      (l.initial.session.entries ++ l.initial.session.asks ++ take l.place (finished_round l.session.slots)) (g.H.Host.log l.initial.host)
      (g.H.Host.log l.host);
  kept : (task : Task) → IsSession task l.initial.session → IsSession task l.session;
  same : StaysIdle l.initial.lines l.lines (g.H.Host.running l.initial.host) (g.H.Host.running l.host);
  host : g.H.Host.faults l.initial.host ≤ g.H.Host.faults l.host;
  sink : g.O.Sink.faults l.initial.out ≤ g.O.Sink.faults l.out;
  led : IsLed (g.H.Host.leads l.initial.host l.host) false;
}
