-- What becomes of a desk and a report.
use Rattle.std.specs.Prelude.{◌≡◌, ℕ, Bool, true, false, Result, IfErr, IfOk}
use Rattle.io_world.specs.Faults.{HasCause, last_count}
use Rattle.io_world.specs.Talks.{Same}
use Rattle.round_run.specs.Desk.{AtDesk}
use Rattle.turn_run.specs.Reports.{IsBroken, IsReported}
use Rattle.round_run.specs.Told.{Stretch, HostTold}
use Rattle.turn_run.specs.declared.whole_run.Ran.{Ran}
use Rattle.round_run.specs.Held.{is_child_running}
use Rattle.io_world.specs.Leads.{IsLed}
use Rattle.round_run.specs.Led.{stops_for_memory}
use Rattle.round_run.specs.Resting.{AreCaused, IsAtRest}
use Rattle.round_run.specs.Batches.{IsRunnable}
use Rattle.round_run.specs.declared.fault.RunFault.{RunFault}
use Rattle.round_run.specs.declared.fault.RunFault.TheVariants.{Generator, Write}
use Rattle.session_core.specs.Session.{IsNew, IsOf}
use Rattle.task_model.specs.Fit.{IsFit}
use Rattle.task_model.specs.declared.task.Task.{Task}
use Rattle.transcript_model.specs.declared.head.Head.{Head}
use Rattle.transcript_model.specs.declared.head.Mode.{Mode}
use Rattle.transcript_model.specs.declared.head.Mode.TheVariants.{Incremental}

-- Nothing was asked, no child runs, and nothing is kept of any.
pub record IsStillAt (desk : AtDesk) (host : HostTold) : Type 0 where
  pub new : IsNew desk.task desk.state
  pub of : IsOf desk.head desk.state
  pub still : IsAtRest desk.held host.running

-- A whole report was written, or a part of one. Where nothing was asked the host is as it was.
pub record EndsReport (old new : AtDesk) (c : Stretch) (result : Result Ran RunFault) : Type 0 where
  pub reported : IfOk result (IsReported old.task old.head c.now.host.spoken c.was.host.log c.now.host.log
      c.was.taken c.now.taken)
  pub broken : IfErr result (IsBroken old.task old.head c.now.host.spoken c.was.host.log c.now.host.log
      c.was.taken c.now.taken)
  pub untouched : IfOk result (λ ran. ran.asks ≡ 0 → c.host.same × ((k : ℕ) → c.now.host.running k ≡ false))
  pub state : Same c.now.host.running (is_child_running new.held)
  pub causes : AreCaused c.last c.was.host.faults c.now.host.faults c.was.lost c.now.lost result
  pub led : IsLed c.host.leads (stops_for_memory result)

-- ---- whole runs

-- What must be so that a task is solved in a mode: the task is fit, the head can be run, has the mode and asks for the
-- cheapest plan in incremental mode alone, and no child runs.
pub record MayRun (mode : Mode) (task : Task) (head : Head) (running : ℕ → Bool) : Type 0 where
  pub fit : IsFit task
  pub runnable : IsRunnable task head
  pub is : head.mode ≡ mode
  pub alone : head.optimal ≡ true → mode ≡ Incremental
  pub idle : (k : ℕ) → running k ≡ false

-- What a run has done, from its head to its end: a whole report was written, or a part of one; where nothing is asked
-- the host is as it was, so no child is started without need; no child runs; a fault of a generator or of the sink is
-- answered only where its count rose; and calls led to what the host is now, of which none wanted memory but where the
-- run stops for that.
pub record EndsRun (task : Task) (head : Head) (c : Stretch) (result : Result Ran RunFault) : Type 0 where
  pub reported : IfOk result (IsReported task head c.now.host.spoken c.was.host.log c.now.host.log
      c.was.taken c.now.taken)
  pub broken : IfErr result (IsBroken task head c.now.host.spoken c.was.host.log c.now.host.log
      c.was.taken c.now.taken)
  pub unneeded : IfOk result (λ ran. ran.asks ≡ 0 → c.host.same)
  pub idle : (k : ℕ) → c.now.host.running k ≡ false
  pub host : HasCause Generator c.last c.was.host.faults c.now.host.faults result
  pub sink : HasCause Write last_count c.was.lost c.now.lost result
  pub led : IsLed c.host.leads (stops_for_memory result)
