use Rattle.std.proofs.Common.{subst, sym}
use Rattle.round_run.proofs.LedLemmas.{joined}
use Rattle.round_run.proofs.OpenLemmas.{batch_refused, batch_went}
use Rattle.round_run.proofs.StartsLemmas.{startable}
use Rattle.round_run.specs.Desk.{AtDesk, OnBatch, RestsAt, desk_of}
use Rattle.round_run.specs.Resting.{IsFrontOfBatch, RanBatch}
use Rattle.round_run.specs.Told.{became, host_told, stretch}
use Rattle.session_core.specs.Ready.{AreReady}
use Rattle.round_run.proofs.desk.Desk.batch.Goals as goal

pub start_workers-requires-clause-pools : goal.start_workers-requires-clause-pools
start_workers-requires-clause-pools g c =
    startable c.self.inside.task.now c.self.inside.head.now c.self.invariant.runnable

pub run_rounds-requires-clause-ready : goal.run_rounds-requires-clause-ready
run_rounds-requires-clause-ready g c =
    subst (λ (d : AtDesk). AreReady d.task d.state.entries c.args.dues.now) (sym c.self.view_is) c.requires.ready

pub returns : goal.returns
returns g c =
    let task = c.self.inside.task.now in
    let head = c.self.inside.head.now in
    let dues = c.args.dues.now in
    let new = c.run_rounds.new.session in
    let left = c.run_rounds.new.lines in
    record {
      goes = subst (λ (d : AtDesk). OnBatch d (desk_of task head new left)
          (stretch g.H.Host g.O.Sink
          c.args.host.now c.run_rounds.new.host c.args.out.now c.run_rounds.new.out)
          (RanBatch d.task d.head dues d.state new) (IsFrontOfBatch d.task d.head d.state.entries dues) c.run_rounds.result) c.self.view_is
          (batch_went task head dues c.self.inside.session c.self.inside.lines c.start_workers.new.lines c.self.invariant.runnable
          g.H.Host.last _
          (host_told g.H.Host c.start_workers.new.host) (became g.H.Host c.args.host.now c.start_workers.new.host)
          (subst (λ (d : AtDesk). RestsAt d (host_told g.H.Host c.args.host.now))
          (sym c.self.view_is) c.requires.rests)
          (joined g.H.Host g.met.H.Host.chains c.args.host.now c.start_workers.new.host c.run_rounds.new.host)
          left new _ c.in_ok-start_workers.field-0 c.run_rounds.result c.in_ok-start_workers.ensures.starts c.run_rounds.ensures.runs);
    }

pub returns-in_err-start_workers : goal.returns-in_err-start_workers
returns-in_err-start_workers g c =
    let task = c.self.inside.task.now in
    let head = c.self.inside.head.now in
    let s = c.self.inside.session in
    let dues = c.args.dues.now in
    let left = c.start_workers.new.lines in
    record {
      goes = subst (λ (d : AtDesk). OnBatch d (desk_of task head s left)
          (stretch g.H.Host g.O.Sink
          c.args.host.now c.start_workers.new.host c.args.out.now c.args.out.now)
          (RanBatch d.task d.head dues d.state s) (IsFrontOfBatch d.task d.head d.state.entries dues) c.from_residual.result) c.self.view_is
          (batch_refused task head dues s c.self.inside.lines left c.self.invariant.runnable g.H.Host.last _
          (host_told g.H.Host c.start_workers.new.host) (became g.H.Host c.args.host.now c.start_workers.new.host)
          (subst (λ (d : AtDesk). RestsAt d (host_told g.H.Host c.args.host.now))
          (sym c.self.view_is) c.requires.rests)
          s c.in_err-start_workers.field-0.0 c.from_residual.result c.from_residual.ensures.1 c.in_err-start_workers.ensures.starts);
    }
