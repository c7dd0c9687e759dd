use Rattle.std.proofs.Common.{◌≡◌, ◌+◌, ◌<◌, ◌≤◌, length, false}
use Rattle.instance_queue.specs.Level.{due_instances}
use Rattle.session_core.specs.Ready.{AreReady}
use Rattle.round_run.proofs.BatchLemmas.{SoFar}
use Rattle.round_run.proofs.batches.run_rounds.Given as goal
use Rattle.round_run.specs.Calls.{AddsCalls}
use Rattle.round_run.specs.Dialogue.{workers_in}
use Rattle.io_world.specs.Leads.{IsLed}
use Rattle.round_run.specs.Rolling.{Goes}
use Rattle.round_run.specs.Resting.{Stays, Works}
use Rattle.round_run.specs.Batches.{AllRun}

-- the asks that are left are still due, and the rounds that were run are the first of the batch
abbrev pub invariant-rounds : goal.invariant-rounds
invariant-rounds g l = record {
  works : Works l.posed.task.now l.posed.head.now l.session l.lines (g.H.Host.running l.host) (g.H.Host.spoken l.host);
  ready : AreReady l.posed.task.now l.session.entries l.rest;
  all_run : 0 < length l.rest → AllRun l.session.pools (g.H.Host.running l.host);
  so_far : SoFar l.posed.head.now l.posed.task.now l.initial.session.entries (due_instances l.initial.rest) l.session.entries (due_instances l.rest);
  counts : length l.session.asked + length l.rest ≡ length l.initial.session.asked + length l.initial.rest;
  grows : length l.initial.session.asked ≤ length l.session.asked;
  goes : Goes l.initial.session.entries l.session.entries (g.O.Sink.taken l.initial.out) (g.O.Sink.taken l.out);
  order : AddsCalls l.posed.task.now (workers_in l.posed.head.now) l.initial.session.entries l.session.entries (g.H.Host.log l.initial.host) (g.H.Host.log l.host);
  same : Stays l.initial.lines l.lines (g.H.Host.running l.initial.host) (g.H.Host.running l.host);
  host : g.H.Host.faults l.initial.host ≤ g.H.Host.faults l.host;
  sink : g.O.Sink.faults l.initial.out ≤ g.O.Sink.faults l.out;
  led : IsLed (g.H.Host.leads l.initial.host l.host) false;
  still : length l.session.asked ≡ length l.initial.session.asked → l.host ≡ l.initial.host;
}

-- each round takes asks away
abbrev pub decreases-rounds : goal.decreases-rounds
decreases-rounds g l = length l.rest
