use Rattle.std.proofs.Common.{◌≡◌, ◌⊎◌, ◌-◌, ◌<◌, ◌≤◌, [], Ok, Result, length}
use Rattle.std.specs.Prelude.{⊤}
use Rattle.solve_run.proofs.BatchesLemmas.{SoFar}
use Rattle.solve_run.specs.Batching.{IsFrontOfBatches}
use Rattle.round_run.specs.Desk.{OnBatch}
use Rattle.round_run.specs.Told.{stretch}
use Rattle.round_run.specs.declared.fault.RunFault.{RunFault}
use Rattle.solve_run.proofs.batches.run_batches.Given as goal

-- the batches so far were run and noted, and their lines written; nothing was asked, or some
abbrev pub invariant-batches : goal.invariant-batches
invariant-batches g l = record {
  goes : OnBatch l.initial.desk l.desk
      (stretch g.H.Host g.O.Sink
      l.initial.host l.host l.initial.out l.out)
      (λ (_ : Unit {0}). ⊤)
      (IsFrontOfBatches l.initial.desk.head l.initial.desk.task l.needs.real l.needs.entries.now [] l.initial.desk.state.entries)
      (let r : Result (Unit {0}) RunFault = Ok tt in r);
  within : length l.desk.state.asked ≤ l.initial.desk.head.calls;
  so_far : SoFar l.initial.desk.head l.initial.desk.task l.needs.real l.needs.entries.now l.initial.desk.state l.desk.state l.gone
      l.initial.tried l.tried;
  real : l.gone.real ≡ l.needs.real;
  begun : ((length l.desk.state.asked ≡ length l.initial.desk.state.asked) × (g.H.Host.log l.host ≡ g.H.Host.log l.initial.host))
      ⊎ (length l.initial.desk.state.asked < length l.desk.state.asked);
}

-- each batch spends calls
abbrev pub decreases-batches : goal.decreases-batches
decreases-batches g l = l.initial.desk.head.calls - length l.desk.state.asked
