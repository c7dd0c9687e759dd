-- What a call makes of a host that starts its children again.
use Rattle.std.proofs.Common.{◌≡◌, ℕ, ◌+◌, ◌<◌, ◌≤◌, Bool, true, false, List, [], ◌∷◌, ◌++◌, Some, Result, Ok, Err, IfOk, OnOk, is_ok, IsErrOf, min, refl, sym, ap, subst, ◌∙◌, arith}
use Rattle.io_world.specs.Faults.{Counts, HasCause}
use Rattle.io_world.specs.Leads.{wants_memory, IsLed}
use Rattle.io_world.specs.declared.host.HostFault.{HostFault}
use Rattle.io_world.specs.declared.host.HostFault.TheVariants.{Failed, Memory}
use Rattle.io_world.specs.Logs.{Calls, Notes}
use Rattle.io_world.specs.Talks.{Event}
use Rattle.io_world.proofs.TalksLemmas.{extends_none}
use Rattle.restart_host.proofs.NotedLemmas.{failures_noted, noted_failures, noted_lost, noted_whole}
use Rattle.restart_host.proofs.UsesLemmas.{done_once}
use Rattle.restart_host.specs.Leads.{Carries, IsDoneBy, Parts}
use Rattle.restart_host.specs.Noted.{IsCallNoted}
use Rattle.restart_host.specs.Tries.{CalledInner, Tried, has_failed, is_failed, refusals}
use Rattle.restart_host.specs.Uses.{IsDone}

-- calls that led there, of which none wanted memory but the last
pub led_by : {m : Bool} (Leads : Bool → Type 0) → Leads m → IsLed Leads m
led_by {m} Leads leads = record { wanted = m; quiet = λ is. is; leads = leads }

-- the call that came was done by these
abbrev pub IsCallDone : Parts → Parts → Event → List Event → Type 0
IsCallDone old new call events =
    (past : List Event) → old.below.log ≡ Some past → new.log.whole ≡ true
    → (new.log.events ≡ old.log.events ++ call ∷ []) × IsDone old.log.events past call events

by_call : (old new : Parts) (call : Event) (events past : List Event) → IsCallDone old new call events
    → old.below.log ≡ Some past → new.log.whole ≡ true → IsDoneBy old.log.events new.log.events past events
by_call old new call events past done was whole =
    let one = done past was whole in
    (call ∷ [], one.0, done_once old.log.events past call events one.1)

-- calls of which none failed
pub carries_called : (child : ℕ) {words : List (List ℕ)} (last : ℕ) (old new : Parts) (call : Event) {D : List Event → Type 0}
    → (called : CalledInner child words last old.below new.below 0 D) → new.left ≡ old.left → new.faults ≡ old.faults
    → Notes old.log new.log call → IsCallDone old new call called.events → Carries last old new false
carries_called child last old new call called left faults noted done = record {
  count = 0;
  left = omega (arith, left, faults);
  most = λ is. omega (arith, left, failures_noted old.log new.log call noted);
  later = called.later;
  rose = called.rose;
  whole = λ is. noted.whole;
  lost = λ is. sym noted.whole ∙ is;
  events = called.events;
  failed = called.failed;
  log = called.log;
  done = λ is past after was now. by_call old new call called.events past done was is;
}

-- tries
pub carries_tried : {T : Type 0} (child : ℕ) {words : List (List ℕ)} (last : ℕ) (old new : Parts)
    (result : Result T HostFault) (call : Event) {D : List Event → Type 0}
    → (tried : Tried child words last old.left new.left old.below new.below result D)
    → new.faults ≤ old.faults + refusals result
    → IsCallNoted old.log new.log call result → has_failed call ≡ is_failed result
    → IsCallDone old new call tried.called.events
    → Carries last old new (wants_memory result)
carries_tried child last old new result call tried faults noted fails done = record {
  count = tried.count;
  left = omega (arith, tried.left, faults);
  most = λ quiet. omega (arith, tried.most quiet, noted_failures old.log new.log call result noted fails quiet);
  later = tried.called.later;
  rose = tried.called.rose;
  whole = noted_whole old.log new.log call result noted;
  lost = noted_lost old.log new.log call result noted;
  events = tried.called.events;
  failed = tried.called.failed;
  log = tried.called.log;
  done = λ is past after was now. by_call old new call tried.called.events past done was is;
}

-- a call that got lost, and wasn't done
pub carries_lost : (last : ℕ) (old : Parts) (log : Calls) → log.whole ≡ false
    → Carries last old (record { left = old.left; faults = old.faults; log = log; below = old.below }) true
carries_lost last old log lost = record {
  count = 0;
  left = omega arith;
  most = λ is. absurd (cc (is));
  later = omega arith;
  rose = λ below. omega arith;
  whole = λ is. absurd (cc (is));
  lost = λ is. absurd (cc (is, lost));
  events = [];
  failed = refl;
  log = extends_none old.below.log;
  done = λ is past after was now. absurd (cc (is, lost));
}

-- how much the count of a host's own faults rises
pub counts_most : {T : Type 0} (last before now : ℕ) (result : Result T HostFault) → Counts Failed last before now result
    → now ≤ before + refusals result
counts_most last before now (Ok value) counts =
    let same : now ≡ before = counts.kept (λ is. cc (is)) in
    omega (arith, same)
counts_most last before now (Err Failed) counts =
    let rose : now ≡ min (before + 1) last = counts.raised refl in
    omega (arith, rose)
counts_most last before now (Err Memory) counts =
    let same : now ≡ before = counts.kept (λ is. cc (is)) in
    omega (arith, same)

pub counts_cause : {T : Type 0} (last before now : ℕ) (result : Result T HostFault) → Counts Failed last before now result
    → before ≤ now → HasCause Failed last before now result
counts_cause last before now result counts later = record {
  later = later;
  cause = λ is.
      let rose : now ≡ min (before + 1) last = counts.raised is in
      omega (arith, rose);
}

-- once a call was refused no failure is made good
pub over_after : {T : Type 0} (last faults_old faults_new left_old left_new : ℕ) (result : Result T HostFault)
    → (0 < faults_old → left_old ≡ 0) → left_new ≤ left_old → (IsErrOf result Failed → left_new ≡ 0)
    → Counts Failed last faults_old faults_new result → 0 < faults_new → left_new ≡ 0
over_after last faults_old faults_new left_old left_new (Ok value) over fewer spent counts some =
    let same : faults_new ≡ faults_old = counts.kept (λ is. cc (is)) in
    let before : 0 < faults_old = omega (arith, same, some) in
    let none : left_old ≡ 0 = over before in
    omega (arith, none, fewer)
over_after last faults_old faults_new left_old left_new (Err Failed) over fewer spent counts some = spent refl
over_after last faults_old faults_new left_old left_new (Err Memory) over fewer spent counts some =
    let same : faults_new ≡ faults_old = counts.kept (λ is. cc (is)) in
    let before : 0 < faults_old = omega (arith, same, some) in
    let none : left_old ≡ 0 = over before in
    omega (arith, none, fewer)

-- all of some bytes are some of them
pub all_some : (most : ℕ) (result : Result ℕ HostFault) → 0 < most → IfOk result (λ n. n ≡ most)
    → IfOk result (λ n. (0 < n) × (n ≤ most))
all_some most (Ok n) some all = (omega (arith, all, some), omega (arith, all))
all_some most (Err fault) some all = tt

-- a call that wanted memory isn't counted
pub counts_memory : {T : Type 0} (last now : ℕ) (answer : Result T HostFault) (fault : HostFault) → answer ≡ Err fault
    → fault ≡ Memory → Counts Failed last now now answer
counts_memory last now answer fault is memory =
    subst (λ a. Counts Failed last now now a) (sym (is ∙ ap Err memory)) (record {
      raised = λ same. absurd (cc (same));
      kept = λ other. refl;
    })

-- a call that failed is counted
pub counts_failed : {T : Type 0} (last before now : ℕ) (answer : Result T HostFault) (fault : HostFault) → answer ≡ Err fault
    → fault ≡ Failed → now ≡ min (before + 1) last
    → Counts Failed last before now answer
counts_failed last before now answer fault is failed rose =
    subst (λ a. Counts Failed last before now a) (sym (is ∙ ap Err failed)) (record {
      raised = λ same. rose;
      kept = λ other. absurd (other refl);
    })

pub ok_so : {T : Type 0} (result : Result T HostFault) (P : Type 0) → OnOk result P → is_ok result ≡ true → P
ok_so (Ok value) P so is = so
ok_so (Err fault) P so is = absurd (cc (is))
