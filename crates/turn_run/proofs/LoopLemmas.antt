-- The loop over turns.
use Rattle.std.proofs.Common.{◌≡◌, ℕ, ◌≤◌, [], List, Option, Result, Ok, arith, count_by, length, refl, subst, sym}
use Rattle.std.specs.Prelude.{⊤}
use Rattle.instance_queue.specs.declared.due.Due.{Due}
use Rattle.round_run.proofs.TurnLineLemmas.{advances_none}
use Rattle.turn_run.proofs.AdvancingLemmas.{ran_turns}
use Rattle.round_run.proofs.GoingLemmas.{between, rests_on, turn_then}
use Rattle.round_run.proofs.LedLemmas.{Joins, StillHost, alone, led_none}
use Rattle.turn_run.proofs.TurnsFrontLemmas.{run_inside}
use Rattle.turn_run.proofs.TurnsLemmas.{Standing}
use Rattle.turn_run.proofs.TurnsLevelLemmas.{may_begin}
use Rattle.round_run.specs.TurnLines.{Advances}
use Rattle.turn_run.specs.Advancing.{IsFrontOfTurn, RanTurn, RanTurns}
use Rattle.round_run.specs.Desk.{AtDesk, OnTurn, RestsAt}
use Rattle.turn_run.specs.Reports.{IsRun}
use Rattle.round_run.specs.Told.{Became, Told}
use Rattle.turn_run.specs.Turns.{IsFrontOfRun, IsTurn}
use Rattle.turn_run.specs.declared.turns.Turned.{Turned}
use Rattle.round_run.proofs.StoppedLemmas.{goes_none}
use Rattle.round_run.specs.declared.fault.RunFault.{RunFault}
use Rattle.transcript_model.specs.Legal.{is_level}
use Rattle.transcript_model.specs.Turns.{Kept}
use Rattle.transcript_model.specs.declared.entry.Entry.{Entry}
use Rattle.transcript_model.specs.declared.outcome.Outcome.{Outcome}

-- no turn yet
pub turns_none : (desk : AtDesk) (still : StillHost) (taken : Option (List ℕ)) (lost : ℕ) (Front : List Entry → Type 0)
    → desk.state.entries ≡ [] → RestsAt desk still.told
    → OnTurn desk desk (alone still taken taken lost lost) (λ (_ : Unit {0}). ⊤) Front (let r : Result (Unit {0}) RunFault = Ok tt in r)
turns_none desk still taken lost Front empty rests = record {
  same = record { task = refl; head = refl };
  holds = rests;
  ran = tt;
  adds = record {
    goes = goes_none desk.state.entries taken;
    order = subst (λ es. Advances desk.task desk.head es desk.state.entries still.told.log still.told.log) (sym empty)
        (advances_none desk.task desk.head desk.state.entries still.told.log empty);
  };
  stopped = tt;
  state = rests.works.listens.state;
  causes = record {
    host = record { later = omega arith; cause = λ is. absurd (cc) };
    sink = record { later = omega arith; cause = λ is. absurd (cc) };
  };
  led = led_none still.leads;
  still = λ none. still.same;
}

-- a turn behind whole turns
pub turn_behind : {a b c : Became} (old mid new : AtDesk) (last : ℕ) (was half now : Told) → Joins a b c → (kept next : Kept)
    (idle idle_now : ℕ) (Holds : ℕ → Type 0)
    (dues : List Due) (r : Result Turned RunFault)
    → OnTurn old mid (between last was half a) (λ (_ : Unit {0}). ⊤) (IsFrontOfRun old.head old.task)
    (let r : Result (Unit {0}) RunFault = Ok tt in r)
    → Standing old.head old.task kept mid.state.entries
    → IsTurn old.head old.task mid.state.entries (length mid.state.asked) dues
    → OnTurn mid new (between last half now b) (RanTurn mid.task mid.head kept next idle idle_now Holds mid.state new.state)
    (IsFrontOfTurn mid.task mid.head kept mid.state.entries) r
    → OnTurn old new (between last was now c) (RanTurn old.task old.head kept next idle idle_now Holds mid.state new.state)
    (IsFrontOfRun old.head old.task) r
turn_behind old mid new last was half now joins kept next idle idle_now Holds dues r first standing turn second =
    let rests = rests_on old mid first.same first.holds in
    turn_then old mid new last was half now joins (λ (_ : Unit {0}). ⊤) (IsFrontOfRun old.head old.task)
    (λ t h. RanTurn t h kept next idle idle_now Holds mid.state new.state) (λ t h. IsFrontOfTurn t h kept mid.state.entries)
    (RanTurn old.task old.head kept next idle idle_now Holds mid.state new.state) (IsFrontOfRun old.head old.task) tt r first second
    (λ t ran. ran)
    (λ es legal f. run_inside old.head old.task kept mid.state.entries es
    (may_begin old.head old.task mid.state.entries (length mid.state.asked) dues rests.works.listens.session.counted turn) turn.needed
    standing legal f)

-- the run ends here
pub turns_ran : {T : Type 0} {host : Became} (old new : AtDesk) (last : ℕ) (was now : Told) (What : T → Type 0) (x : T) (o : Outcome)
    → old.state.entries ≡ []
    → OnTurn old new (between last was now host) What (IsFrontOfRun old.head old.task) (let r : Result T RunFault = Ok x in r)
    → count_by is_level new.state.entries ≤ length new.state.asked → IsRun old.task old.head new.state.entries o
    → RanTurns old.task old.head new.state now.host.spoken was.host.log now.host.log o
turns_ran old new last was now What x o empty goes levels run =
    ran_turns old.task old.head new.state new.held now.host.running now.host.spoken was.host.log now.host.log o run levels
    (rests_on old new goes.same goes.holds)
    (subst (λ es. Advances old.task old.head es new.state.entries was.host.log now.host.log) empty goes.adds.order)
