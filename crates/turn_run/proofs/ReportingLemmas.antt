-- Ends of a report.
use Rattle.std.proofs.Common.{arith, refl, subst, Bool, Option, List, false, ◌≡◌, ◌≤◌, ◌∙◌, ℕ, Result, Err, ap, sym}
use Rattle.std.proofs.lemmas.Result.{IfErr-weaker, IfOk-weaker, err_from_is_err_and}
use Rattle.std.specs.Result.{IsErrAnd}
use Rattle.io_world.specs.Faults.{HasCause, last_count}
use Rattle.io_world.specs.Talks.{Same}
use Rattle.round_run.specs.Desk.{AtDesk}
use Rattle.turn_run.proofs.ReportsLemmas.{broken_before, broken_stopped, reported_behind}
use Rattle.turn_run.specs.Reporting.{EndsReport, EndsRun}
use Rattle.turn_run.specs.Reports.{IsBroken, IsReported}
use Rattle.round_run.proofs.CallsRunLemmas.{stops_none}
use Rattle.round_run.proofs.GoingLemmas.{between}
use Rattle.round_run.proofs.LedLemmas.{StillHost, alone, led_end, led_none}
use Rattle.round_run.specs.Children.{StopsAll}
use Rattle.io_world.specs.Leads.{IsLed}
use Rattle.round_run.specs.Led.{is_memory}
use Rattle.round_run.specs.Told.{Became, HostTold, Stretch, Told}
use Rattle.task_model.specs.declared.task.Task.{Task}
use Rattle.transcript_model.specs.declared.head.Head.{Head}
use Rattle.turn_run.specs.declared.whole_run.Ran.{Ran}
use Rattle.round_run.specs.Held.{is_child_running}
use Rattle.round_run.specs.Resting.{AreCaused}
use Rattle.round_run.specs.declared.fault.RunFault.{RunFault}
use Rattle.round_run.specs.declared.fault.RunFault.TheVariants.{Generator, Memory, Write}

-- where nothing but the sink had a part in it
pub causes_written : {T : Type 0} (last before now lost lost_now : ℕ) (fault : RunFault) → fault ≡ Write → before ≤ now
    → HasCause Write last_count lost lost_now (let r : Result T RunFault = Err fault in r)
    → AreCaused last before now lost lost_now (let r : Result T RunFault = Err fault in r)
causes_written {T} last before now lost lost_now fault is less cause = record {
  host = record { later = less; cause = λ same. absurd (no (sym (same_fault same) ∙ is)) };
  sink = cause;
}
  where
    same_fault : {x y : RunFault} → (let r : Result T RunFault = Err x in r) ≡ Err y → x ≡ y
    same_fault e = cc

    no : Generator ≡ Write → ⊥
    no bad = cc

-- a fault that is handed on
pub reports_handed : {T : Type 0} (old new : AtDesk) (c : Stretch) (fault : RunFault) (r : Result Ran RunFault)
    → IsErrAnd r (λ y. y ≡ fault)
    → IsBroken old.task old.head c.now.host.spoken c.was.host.log c.now.host.log c.was.taken c.now.taken fault
    → Same c.now.host.running (is_child_running new.held)
    → AreCaused c.last c.was.host.faults c.now.host.faults c.was.lost c.now.lost (let s : Result T RunFault = Err fault in s)
    → IsLed c.host.leads (is_memory fault) → EndsReport old new c r
reports_handed {T} old new c fault r is broken state causes led =
    let p = err_from_is_err_and r is in
    rw (p.1, p.2) (record {
      reported = tt;
      broken = broken;
      untouched = tt;
      state = state;
      causes = record {
        host = record { later = causes.host.later; cause = λ same. causes.host.cause (ap Err (same_fault same)) };
        sink = record { later = causes.sink.later; cause = λ same. causes.sink.cause (ap Err (same_fault same)) };
      };
      led = led;
    })
  where
    same_fault : {x y : RunFault} → (let s : Result Ran RunFault = Err x in s) ≡ Err y → x ≡ y
    same_fault e = cc

-- ---- whole runs

-- memory was wanting before the first line
pub ends_memory : (task : Task) (head : Head) (still : StillHost) (taken : Option (List ℕ)) (lost : ℕ)
    (r : Result Ran RunFault) → IsErrAnd r (λ y. y ≡ Memory) → ((k : ℕ) → still.told.running k ≡ false)
    → EndsRun task head (alone still taken taken lost lost) r
ends_memory task head still taken lost r is idle =
    let p = err_from_is_err_and r is in
    rw (p.1, p.2) (record {
      reported = tt;
      broken = broken_before task head still.told.spoken still.told.log still.told.log taken Memory (stops_none still.told.log) refl;
      unneeded = tt;
      idle = idle;
      host = record { later = omega arith; cause = λ same. absurd (no_generator (same_fault same)) };
      sink = record { later = omega arith; cause = λ same. absurd (no_write (same_fault same)) };
      led = led_none still.leads;
    })
  where
    same_fault : {x y : RunFault} → (let s : Result Ran RunFault = Err x in s) ≡ Err y → x ≡ y
    same_fault e = cc

    no_generator : Memory ≡ Generator → ⊥
    no_generator bad = cc

    no_write : Memory ≡ Write → ⊥
    no_write bad = cc

-- behind a report all children are stopped
pub ends_stopped : {first later all : Became} (task : Task) (head : Head) (old mid : AtDesk) (last : ℕ) (was half : Told) (host : HostTold)
    (r : Result Ran RunFault) → old.task ≡ task → old.head ≡ head → EndsReport old mid (between last was half first) r
    → StopsAll (record { last = last; was = half.host; now = host; host = later })
    → ((m : Bool) → first.leads m → later.leads false → all.leads m) → (first.same → later.same → all.same)
    → EndsRun task head (between last was (record { host = host; taken = half.taken; lost = half.lost }) all) r
ends_stopped {first} {later} {all} task head old mid last was half host r tasks heads e stops ends both =
    let spoken = half.host.spoken in
    let log = half.host.log in
    record {
      reported = IfOk-weaker r _ _ (λ ran there.
          reported_behind task head spoken host.spoken was.host.log log host.log was.taken half.taken ran stops.spoken stops.stops
          (subst (λ (h : Head). IsReported task h spoken was.host.log log was.taken half.taken ran) heads
          (subst (λ (t : Task). IsReported t old.head spoken was.host.log log was.taken half.taken ran) tasks there))) e.reported;
      broken = IfErr-weaker r _ _ (λ fault there.
          broken_stopped task head spoken host.spoken was.host.log log host.log was.taken half.taken fault stops.spoken stops.stops
          (subst (λ (h : Head). IsBroken task h spoken was.host.log log was.taken half.taken fault) heads
          (subst (λ (t : Task). IsBroken t old.head spoken was.host.log log was.taken half.taken fault) tasks there))) e.broken;
      unneeded = IfOk-weaker r _ _ (λ ran untouched nothing. let u = untouched nothing in both u.0 (stops.none u.1)) e.untouched;
      idle = stops.idle;
      host = record {
        later = omega (arith, e.causes.host.later, stops.later);
        cause = λ is. omega (arith, e.causes.host.cause is, stops.later);
      };
      sink = e.causes.sink;
      led = led_end first.leads later.leads all.leads ends e.led stops.leads;
    }
