-- Parts of a turn: what holds before one, one that does nothing, and what holds besides where one went well.
use Rattle.std.proofs.Common.{◌≤◌, ℕ, All, Bool, List, Option, Result, Ok, Err, arith, inl, map, refl, subst}
use Rattle.std.specs.Result.{IfOk, OnOk}
use Rattle.io_world.specs.Talks.{Talk}
use Rattle.pools.specs.Pools.{AreFitPools}
use Rattle.round_run.proofs.CallsRunLemmas.{runs_still}
use Rattle.round_run.proofs.LedLemmas.{StillHost, alone, led_none}
use Rattle.round_run.proofs.RollingFrontLemmas.{all_work}
use Rattle.round_run.proofs.StoppedLemmas.{goes_none}
use Rattle.round_run.specs.Desk.{AtDesk, OnTurn, RestsAt}
use Rattle.round_run.specs.Resting.{Rests}
use Rattle.round_run.specs.Told.{Stretch}
use Rattle.round_run.specs.declared.fault.RunFault.{RunFault}
use Rattle.transcript_model.specs.Rounds.{Share, share_of}
use Rattle.transcript_model.specs.declared.entry.Entry.{Entry}

-- each pool has a worker
pub all_working : (desk : AtDesk) {running : ℕ → Bool} {spoken : ℕ → Option Talk}
    → Rests desk.task desk.head desk.state desk.held running spoken → All (λ (p : Share). 1 ≤ p.workers) (map share_of desk.head.pools)
all_working desk rests =
    all_work desk.head.pools (subst (AreFitPools desk.task) rests.works.of.pools rests.works.listens.session.pools).some

-- nothing was done
pub turn_still : {T : Type 0} (desk : AtDesk) (still : StillHost) (taken : Option (List ℕ)) (lost : ℕ)
    (What : T → Type 0) (Front : List Entry → Type 0) (x : T) → RestsAt desk still.told → What x
    → OnTurn desk desk (alone still taken taken lost lost) What Front (let r : Result T RunFault = Ok x in r)
turn_still desk still taken lost What Front x rests what = record {
  same = record { task = refl; head = refl };
  holds = rests;
  ran = what;
  adds = record {
    goes = goes_none desk.state.entries taken;
    order = record {
      runs = runs_still desk.task desk.head desk.state.entries still.told.log;
      needed = inl refl;
      untouched = λ none. refl;
    };
  };
  stopped = tt;
  state = rests.works.listens.state;
  causes = record {
    host = record { later = omega arith; cause = λ is. absurd (cc) };
    sink = record { later = omega arith; cause = λ is. absurd (cc) };
  };
  led = led_none still.leads;
  still = λ none. still.same;
}

-- what was answered, with how the desk stands then
pub turn_resting : {T : Type 0} (old new : AtDesk) (c : Stretch) (What : T → Type 0) (Front : List Entry → Type 0)
    (r : Result T RunFault) → OnTurn old new c What Front r → OnTurn old new c (λ y. What y × RestsAt new c.now.host) Front r
turn_resting {T} old new c What Front r goes = record {
  same = goes.same;
  holds = goes.holds;
  ran = by r goes.ran goes.holds;
  adds = goes.adds;
  stopped = goes.stopped;
  state = goes.state;
  causes = goes.causes;
  led = goes.led;
  still = goes.still;
}
  where
    by : (q : Result T RunFault) → IfOk q What → OnOk q (RestsAt new c.now.host) → IfOk q (λ y. What y × RestsAt new c.now.host)
    by (Ok y) what rests = (what, rests)
    by (Err fault) what rests = tt
