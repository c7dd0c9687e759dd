-- How many calls on children failed, by how a part of a run ends.
use Rattle.std.proofs.Common.{◌≡◌, ℕ, ◌<◌, ◌≤◌, arith, suc, Bool, true, false, List, [], ◌++◌, Option, Some, Result, Ok, Err, refl, sym, subst, ap, ◌∙◌, IsErrOf}
use Rattle.io_world.specs.Faults.{HasCause, last_count}
use Rattle.io_world.specs.Logs.{Calls, no_calls, told_of}
use Rattle.io_world.specs.Talks.{Event, LogGrows}
use Rattle.restart_host.proofs.NotedLemmas.{told_whole}
use Rattle.restart_host.proofs.RisesLemmas.{refused_more, refused_rose}
use Rattle.restart_host.specs.Leads.{Carries, Parts, RoseBy}
use Rattle.restart_host.specs.Tries.{failures}
use Rattle.round_run.proofs.StoppedLemmas.{same_err}
use Rattle.round_run.specs.Told.{Course}
use Rattle.round_run.specs.declared.fault.RunFault.{RunFault}
use Rattle.round_run.specs.declared.fault.RunFault.TheVariants.{Answer, Generator, Write, Memory}
use Rattle.run_command.proofs.FailedLemmas.{HasFailed, failures_in}
use Rattle.run_command.specs.Heard.{CountFailures}

-- ---- of a host that starts its children again

-- none failed, where no generator is at fault
pub failed_none : {T : Type 0} (r : Result T RunFault) → ¬ (IsErrOf r Generator) → failures_in r ≡ 0
failed_none (Ok value) other = refl
failed_none (Err Generator) other = absurd (other refl)
failed_none (Err Memory) other = refl
failed_none (Err Write) other = refl
failed_none (Err (Answer number why)) other = refl

-- where a log is told that was empty before, its calls are those that came
pub told_failed : (calls : Calls) (old : Option (List Event)) (count : ℕ) → old ≡ Some [] → calls.whole ≡ true
    → HasFailed old (told_of calls) count → failures calls.events ≡ count
told_failed calls old count none whole has =
    let told : told_of calls ≡ Some calls.events = told_whole calls whole in
    let grown : (before : List Event) × (old ≡ Some before) × (calls.events ≡ before ++ has.events) =
    subst (λ (now : Option (List Event)). LogGrows old now has.events) told has.log in
    let empty : grown.0 ≡ [] = cc (grown.1, none) in
    let same : calls.events ≡ has.events = grown.2 ∙ ap (λ es. es ++ has.events) empty in
    ap failures same ∙ has.failed

module _ (last : ℕ) (old new : Parts) (wanted : Bool) (carries : Carries last old new wanted) (none : old.faults ≡ 0)
    (spent : 0 < new.faults → new.left ≡ 0) {T : Type 0} (r : Result T RunFault)
    (has : HasCause Generator last_count old.faults new.faults r) where
  -- a call was refused
  refused : IsErrOf r Generator → 0 < new.faults
  refused is = let rose = has.cause is in omega (arith, rose, none)

  -- the count below rose by more than are made good
  rose_more : IsErrOf r Generator → RoseBy (suc old.left) last old.below.faults new.below.faults
  rose_more is =
      let some = refused is in
      let rose = refused_rose last old new wanted carries none some (spent some) in
      omega (arith, rose)

  -- so the count below rose
  pub caused_below : HasCause Generator last old.below.faults new.below.faults r
  caused_below = record {
    later = carries.later;
    cause = λ is. let rose = rose_more is in omega (arith, rose);
  }

  -- no more calls failed below than are made good and were refused here, unless memory was wanting
  module _ (fresh : old.log ≡ no_calls) (told : ¬ (IsErrOf r Memory) → (wanted ≡ false)
      × (failures new.log.events ≡ failures_in r)) where
    unasked : failures old.log.events ≡ 0
    unasked = ap (λ (l : Calls). failures l.events) fresh

    failed_more : IsErrOf r Generator → failures carries.events ≡ suc old.left
    failed_more is =
        let some = refused is in
        let more = refused_more last old new wanted carries none some (spent some) in
        let known = told (λ other. absurd (cc (is, other))) in
        let most = carries.most known.0 in
        let one : failures new.log.events ≡ 1 = known.1 ∙ ap failures_in is in
        omega (arith, more, most, one, unasked, carries.failed)

    failed_few : ¬ (IsErrOf r Generator) → ¬ (IsErrOf r Memory) → failures carries.events ≤ old.left
    failed_few other some =
        let known = told some in
        let most = carries.most known.0 in
        let one : failures new.log.events ≡ 0 = known.1 ∙ failed_none r other in
        omega (arith, most, one, unasked, carries.failed)

    pub counted_below : (c : Course) → c.last ≡ last → c.was.faults ≡ old.below.faults → c.now.faults ≡ new.below.faults
        → LogGrows c.was.log c.now.log carries.events → CountFailures Generator Memory old.left c r
    counted_below c same was now log = record {
      many = λ is. record {
        rose =
            subst (λ n. RoseBy (suc old.left) n c.was.faults c.now.faults) (sym same)
            (subst (λ n. RoseBy (suc old.left) last n c.now.faults) (sym was)
            (subst (λ n. RoseBy (suc old.left) last old.below.faults n) (sym now) (rose_more is)));
        events = carries.events;
        log = log;
        failed = failed_more is;
      };
      few = λ other some. record { events = carries.events; log = log; failed = failed_few other some };
    }

-- ---- of parts of a run

-- where no call is made none failed
pub counted_still : {T E : Type 0} (generator memory : E) (restarts : ℕ) (c : Course) (r : Result T E)
    → (IsErrOf r generator → ⊥) → LogGrows c.was.log c.now.log [] → CountFailures generator memory restarts c r
counted_still generator memory restarts c r other log = record {
  many = λ is. absurd (other is);
  few = λ not some. record { events = []; log = log; failed = omega arith };
}

-- as many failed, where a part of a run ends as another
pub counted_as : {T U E F : Type 0} (generator memory : E) (other lack : F) (restarts : ℕ) (c : Course) (r : Result T E)
    (s : Result U F) → (IsErrOf s other → IsErrOf r generator) → (IsErrOf r generator → IsErrOf s other)
    → (IsErrOf r memory → IsErrOf s lack) → CountFailures generator memory restarts c r → CountFailures other lack restarts c s
counted_as generator memory other lack restarts c r s from to lacks x = record {
  many = λ is. x.many (from is);
  few = λ not some. x.few (λ is. not (to is)) (λ is. some (lacks is));
}

-- so where both are done
pub counted_done : {T U E F : Type 0} (generator memory : E) (other lack : F) (restarts : ℕ) (c : Course) (value : T)
    (given : U) → CountFailures generator memory restarts c (Ok value) → CountFailures other lack restarts c (Ok given)
counted_done generator memory other lack restarts c value given x =
    counted_as generator memory other lack restarts c (Ok value) (Ok given) (λ is. absurd (cc (is))) (λ is. absurd (cc (is)))
    (λ is. absurd (cc (is))) x

-- and where both stop so
pub counted_stopped : {T U E : Type 0} (generator memory : E) (restarts : ℕ) (c : Course) (why : E)
    → CountFailures generator memory restarts c (let r : Result T E = Err why in r)
    → CountFailures generator memory restarts c (let r : Result U E = Err why in r)
counted_stopped {T} {U} generator memory restarts c why x =
    counted_as generator memory generator memory restarts c (let r : Result T _ = Err why in r) (let r : Result U _ = Err why in r)
    (λ is. ap Err (same_err is)) (λ is. ap Err (same_err is)) (λ is. ap Err (same_err is)) x

-- no generator is at fault behind what was done
pub counted_behind : {T U E : Type 0} (generator memory : E) (restarts : ℕ) (c : Course) (value : T) (s : Result U E)
    → (IsErrOf s generator → ⊥) → CountFailures generator memory restarts c (Ok value)
    → CountFailures generator memory restarts c s
counted_behind generator memory restarts c value s other x = record {
  many = λ is. absurd (other is);
  few = λ not some. x.few (λ is. absurd (cc (is))) (λ is. absurd (cc (is)));
}
