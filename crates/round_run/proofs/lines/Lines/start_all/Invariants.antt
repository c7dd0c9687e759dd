use Rattle.std.proofs.Common.{◌≤◌, false}
use Rattle.std.specs.List.{flat_map}
use Rattle.lemmas.specs.Lists.{numbers_from}
use Rattle.io_world.specs.Faults.{Extends}
use Rattle.io_world.specs.Talks.{Same}
use Rattle.round_run.proofs.StartsLemmas.{IdleFrom, RunBefore}
use Rattle.round_run.proofs.lines.Lines.start_all.Given as goal
use Rattle.round_run.specs.Calls.{start_at}
use Rattle.round_run.specs.Held.{is_child_running}
use Rattle.io_world.specs.Leads.{IsLed}
use Rattle.round_run.specs.Resting.{KeepsSilent}

-- the workers before this child run, and no others do
abbrev pub invariant-loop-child : goal.invariant-loop-child
invariant-loop-child g l = record {
  state : Same (g.H.Host.running l.host) (is_child_running l.self);
  done : RunBefore l.pools l.child (is_child_running l.self);
  left : IdleFrom l.pools l.child (is_child_running l.self);
  quiet : KeepsSilent l.initial.self l.self (g.H.Host.spoken l.initial.host) (g.H.Host.spoken l.host);
  log : Extends (g.H.Host.log l.initial.host) (g.H.Host.log l.host)
      (flat_map (start_at l.pools) (numbers_from 0 l.child));
  host : g.H.Host.faults l.initial.host ≤ g.H.Host.faults l.host;
  led : IsLed (g.H.Host.leads l.initial.host l.host) false;
}
