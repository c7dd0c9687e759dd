-- What was heard of children that are started again where they fail.
use Rattle.std.proofs.Common.{◌≡◌, ℕ, ◌<◌, arith, zero, suc, false, List, [], Option, Some, Result, Ok, Err, refl, sym, subst, ap, ◌∙◌, IfOk, IsErrOf}
use Rattle.io_world.proofs.TalksLemmas.{extends_none}
use Rattle.io_world.specs.Logs.{no_calls, said_of}
use Rattle.io_world.specs.Talks.{Event, Talk}
use Rattle.restart_host.specs.Tries.{failures}
use Rattle.round_run.specs.Led.{stops_for_memory}
use Rattle.round_run.specs.declared.fault.RunFault.{RunFault}
use Rattle.round_run.specs.declared.fault.RunFault.TheVariants.{Answer, Generator, Write, Memory}
use Rattle.round_run.proofs.CallsRunLemmas.{stops_none}
use Rattle.round_run.specs.Calls.{LogStops}
use Rattle.round_run.specs.Told.{Stretch}
use Rattle.run_command.proofs.CountedLemmas.{failed_none}
use Rattle.run_command.proofs.FailedLemmas.{HasFailed, failures_in, run_failed}
use Rattle.run_command.specs.Heard.{EndsHeard, Heard, IsHeard, IsHeardAgain, heard_over}
use Rattle.task_model.specs.declared.task.Task.{Task}
use Rattle.transcript_model.specs.declared.head.Head.{Head}
use Rattle.turn_run.specs.Reporting.{EndsRun}
use Rattle.turn_run.specs.declared.whole_run.Ran.{Ran}

-- what holds of a value holds of one that is the same
pub moved : {A : Type 0} (P : A → Type 0) (a b : A) → a ≡ b → P b → P a
moved P a b is p = subst P (sym is) p

-- ---- what was heard

-- some failures are made good
pub heard_again : (restarts : ℕ) (Lacked : Type 0) (below heard : Heard) → 0 < restarts
    → IsHeardAgain Lacked below heard → IsHeard restarts Lacked below heard
heard_again zero Lacked below heard some h = absurd (omega (arith, some))
heard_again (suc more) Lacked below heard some h = h

-- memory may be wanting in more cases
pub heard_weaker : (restarts : ℕ) (Lacked Other : Type 0) (below heard : Heard) → (Lacked → Other)
    → IsHeard restarts Lacked below heard → IsHeard restarts Other below heard
heard_weaker zero Lacked Other below heard weaker h = h
heard_weaker (suc more) Lacked Other below heard weaker h = record {
  calls = h.calls;
  spoken = h.spoken;
  was = h.was;
  now = h.now;
  whole = λ not. h.whole (λ lacked. not (weaker lacked));
  events = h.events;
  log = h.log;
  done = h.done;
}

-- a host on which no call is made
abbrev pub at_rest : (ℕ → Option Talk) → Option (List Event) → Heard
at_rest spoken log = record { spoken = spoken; was = log; now = log }

-- what is heard of its children
abbrev pub silent : (restarts : ℕ) → (ℕ → Option Talk) → Option (List Event) → Heard
silent zero spoken log = at_rest spoken log
silent (suc more) spoken log = at_rest (said_of no_calls) (Some [])

pub heard_silent : (restarts : ℕ) (Lacked : Type 0) (spoken : ℕ → Option Talk) (log : Option (List Event))
    → IsHeard restarts Lacked (at_rest spoken log) (silent restarts spoken log)
heard_silent zero Lacked spoken log = refl
heard_silent (suc more) Lacked spoken log = record {
  calls = no_calls;
  spoken = refl;
  was = refl;
  now = refl;
  whole = λ not. refl;
  events = [];
  log = extends_none log;
  done = λ whole past after was now. ([], refl, refl);
}

silent_same : (restarts : ℕ) (spoken : ℕ → Option Talk) (log : Option (List Event))
    → (silent restarts spoken log).now ≡ (silent restarts spoken log).was
silent_same zero spoken log = refl
silent_same (suc more) spoken log = refl

pub silent_stops : (restarts : ℕ) (spoken : ℕ → Option Talk) (log : Option (List Event))
    → LogStops (silent restarts spoken log).was (silent restarts spoken log).now
silent_stops restarts spoken log =
    subst (LogStops (silent restarts spoken log).was) (sym (silent_same restarts spoken log))
    (stops_none (silent restarts spoken log).was)

-- where none is made good it is what the host tells
pub heard_plain : (restarts : ℕ) (Lacked : Type 0) (below heard : Heard) → restarts ≡ 0
    → IsHeard restarts Lacked below heard → heard ≡ below
heard_plain zero Lacked below heard none h = h
heard_plain (suc more) Lacked below heard none h = absurd (omega (arith, none))

-- no memory was wanting
pub none_wanted : {T : Type 0} (r : Result T RunFault) → ¬ (IsErrOf r Memory) → stops_for_memory r ≡ false
none_wanted (Ok x) not = refl
none_wanted (Err Memory) not = absurd (not refl)
none_wanted (Err Generator) not = refl
none_wanted (Err Write) not = refl
none_wanted (Err (Answer number why)) not = refl

-- what holds of an outcome, from another fact of it
pub ok_with : {T E : Type 0} (P Q : T → Type 0) (r : Result T E) → ((x : T) → P x → Q x) → IfOk r P → IfOk r Q
ok_with P Q (Ok x) f p = f x p
ok_with P Q (Err e) f p = tt

-- where no failure is made good
pub plain_run : (restarts : ℕ) → restarts ≡ 0 → (task : Task) (head : Head) (c : Stretch) (r : Result Ran RunFault)
    → (c.host.same → c.now.host.log ≡ c.was.host.log) → EndsRun task head c r → EndsHeard restarts task head c r
plain_run restarts none task head c r log e = subst (λ n. EndsHeard n task head c r) (sym none) (record {
  heard = heard_over c;
  by = refl;
  reported = e.reported;
  broken = e.broken;
  unneeded = ok_with _ _ r (λ ran still asked. (log (still asked), still asked)) e.unneeded;
  idle = e.idle;
  host = e.host;
  failed = record {
    many = λ is.
        let has = failed_plain (λ other. absurd (cc (is, other))) in
        record {
          rose = e.host.cause is;
          events = has.events;
          log = has.log;
          failed = has.failed ∙ ap failures_in is;
        };
    few = λ other some.
        let has = failed_plain some in
        let count : failures has.events ≡ 0 = has.failed ∙ failed_none r other in
        record { events = has.events; log = has.log; failed = omega (arith, count) };
  };
  sink = e.sink;
}) where
  failed_plain : ¬ (IsErrOf r Memory) → HasFailed c.was.host.log c.now.host.log (failures_in r)
  failed_plain some =
      run_failed task head c.now.host.spoken c.was.host.log c.now.host.log c.was.taken c.now.taken r some e.reported e.broken
