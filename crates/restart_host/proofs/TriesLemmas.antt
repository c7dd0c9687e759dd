-- Calls on one child of the host below.
use Rattle.std.proofs.Common.{◌≡◌, ◌≢◌, ℕ, ◌+◌, ◌<◌, ◌≤◌, Bool, true, false, cond, List, [], ◌∷◌, ◌++◌, drop, Result, Ok, Err, MatchResult, refl, ap, subst, ◌∙◌, arith, All, min, zero-add, inr, take}
use Rattle.std.proofs.lemmas.List.Elements.{All-nil, All-head, All-tail, All-append, All-weaker}
use Rattle.lemmas.proofs.Counts.{count_joined, count_one, count_head}
use Rattle.lemmas.proofs.ListTests.{all_one}
use Rattle.io_world.specs.Faults.{HasCause}
use Rattle.io_world.specs.Talks.{Event, started, wrote, heard, stopped, LogGrows, Logs, Same, Becomes, IsTaken, IsGiven, Takes, Gives, LogsTaken, LogsTakenPart, LogsGiven, LogsGivenPart}
use Rattle.io_world.specs.declared.host.HostFault.{HostFault}
use Rattle.io_world.specs.declared.host.HostFault.TheVariants.{Failed, Memory}
use Rattle.io_world.proofs.TalksLemmas.{extends_none, extends_more}
use Rattle.io_world.specs.Replies.{IsLine}
use Rattle.restart_host.specs.Uses.{IsEnding}
use Rattle.restart_host.specs.Tries.{Seen, is_failed, refusals, has_failed, failures, IsOn, CalledInner}

pub called_none : (child : ℕ) (words : List (List ℕ)) (last : ℕ) (seen : Seen) (D : List Event → Type 0) → D []
    → CalledInner child words last seen seen 0 D
called_none child words last seen D does = record {
  others = λ k other. refl;
  later = omega arith;
  rose = λ below. omega arith;
  events = [];
  on = All-nil (IsOn child words);
  failed = refl;
  log = extends_none seen.log;
  does = does;
}

-- calls behind calls
pub called_more : (child : ℕ) (words : List (List ℕ)) (last : ℕ) (a b c : Seen) (m n : ℕ) (D E F : List Event → Type 0)
    → ((xs ys : List Event) → D xs → E ys → F (xs ++ ys))
    → CalledInner child words last a b m D → CalledInner child words last b c n E
    → CalledInner child words last a c (m + n) F
called_more child words last a b c m n D E F join first second = record {
  others = λ k other. second.others k other ∙ first.others k other;
  later = omega (arith, first.later, second.later);
  rose = λ below.
      let late : c.faults < last = below in
      let before : b.faults < last = omega (arith, late, second.later) in
      omega (arith, first.rose before, second.rose late);
  events = first.events ++ second.events;
  on = All-append (IsOn child words) first.events second.events first.on second.on;
  failed = count_joined has_failed first.events second.events ∙ ap (λ k. k + failures second.events) first.failed
      ∙ ap (λ k. m + k) second.failed;
  log = extends_more a.log b.log c.log first.events second.events first.log second.log;
  does = join first.events second.events first.does second.does;
}

-- calls behind others of which none failed
pub called_then : (child : ℕ) (words : List (List ℕ)) (last : ℕ) (a b c : Seen) (n : ℕ) (D E F : List Event → Type 0)
    → ((xs ys : List Event) → D xs → E ys → F (xs ++ ys))
    → CalledInner child words last a b 0 D → CalledInner child words last b c n E
    → CalledInner child words last a c n F
called_then child words last a b c n D E F join first second =
    subst (λ m. CalledInner child words last a c m F) (zero-add n) (called_more child words last a b c 0 n D E F join first second)

-- calls of which none failed behind others
pub called_quiet : (child : ℕ) (words : List (List ℕ)) (last : ℕ) (a b c : Seen) (m : ℕ) (D E F : List Event → Type 0)
    → ((xs ys : List Event) → D xs → E ys → F (xs ++ ys))
    → CalledInner child words last a b m D → CalledInner child words last b c 0 E
    → CalledInner child words last a c m F
called_quiet child words last a b c m D E F join first second =
    let same : m + 0 ≡ m = omega arith in
    subst (λ k. CalledInner child words last a c k F) same (called_more child words last a b c m 0 D E F join first second)

-- the same calls, of which something else is said
pub called_as : (child : ℕ) (words : List (List ℕ)) (last : ℕ) (a b : Seen) (n : ℕ) (D E : List Event → Type 0)
    → ((events : List Event) → D events → E events)
    → CalledInner child words last a b n D → CalledInner child words last a b n E
called_as child words last a b n D E weaker called = record {
  others = called.others;
  later = called.later;
  rose = called.rose;
  events = called.events;
  on = called.on;
  failed = called.failed;
  log = called.log;
  does = weaker called.events called.does;
}

-- the count rose by what the call says of it
risen : {T : Type 0} (last before now : ℕ) (result : Result T HostFault) → HasCause Failed last before now result
    → now < last → before + refusals result ≤ now
risen last before now (Ok value) cause below = omega (arith, cause.later)
risen last before now (Err Failed) cause below =
    let rose : min (before + 1) last ≤ now = cause.cause refl in
    omega (arith, rose, below)
risen last before now (Err Memory) cause below = omega (arith, cause.later)

-- one call
pub called_one : {T : Type 0} (child : ℕ) (words : List (List ℕ)) (last : ℕ) (old new : Seen) (event : Event)
    (result : Result T HostFault) (D : List Event → Type 0) → IsOn child words event → has_failed event ≡ is_failed result
    → ((k : ℕ) → k ≢ child → new.running k ≡ old.running k)
    → HasCause Failed last old.faults new.faults result → Logs old.log new.log event → D (event ∷ [])
    → CalledInner child words last old new (refusals result) D
called_one child words last old new event result D on fails others cause log does = record {
  others = others;
  later = cause.later;
  rose = risen last old.faults new.faults result cause;
  events = event ∷ [];
  on = all_one (IsOn child words) event on;
  failed = count_one has_failed event ∙ ap (λ b. cond b 1 0) fails;
  log = log;
  does = does;
}

others_kept : {T : Type 0} (child : ℕ) (old new : ℕ → Bool) (result : Result T HostFault)
    → MatchResult result (λ _. Becomes child true old new) (λ _. Same old new)
    → (k : ℕ) → k ≢ child → new k ≡ old k
others_kept child old new (Ok value) becomes k other = becomes.others k other
others_kept child old new (Err fault) same k other = same k

-- a start
pub called_start : (child : ℕ) (words : List (List ℕ)) (last : ℕ) (old new : Seen) (result : Result (Unit {0}) HostFault)
    → MatchResult result (λ _. Becomes child true old.running new.running) (λ _. Same old.running new.running)
    → HasCause Failed last old.faults new.faults result → Logs old.log new.log (started child words result)
    → CalledInner child words last old new (refusals result) (λ events. events ≡ started child words result ∷ [])
called_start child words last old new result running cause log =
    called_one child words last old new (started child words result) result (λ events. events ≡ started child words result ∷ [])
    (refl, refl) refl (others_kept child old.running new.running result running) cause log refl

-- a stop, whatever it answers
pub called_stop : (child : ℕ) (words : List (List ℕ)) (last : ℕ) (old new : Seen) (result : Result (Unit {0}) HostFault)
    → Becomes child false old.running new.running → HasCause Failed last old.faults new.faults result
    → Logs old.log new.log (stopped child result)
    → CalledInner child words last old new 0 (IsEnding child)
called_stop child words last old new result running cause log = record {
  others = running.others;
  later = cause.later;
  rose = λ below. omega (arith, cause.later);
  events = stopped child result ∷ [];
  on = all_one (IsOn child words) (stopped child result) refl;
  failed = count_one has_failed (stopped child result);
  log = log;
  does = inr (result, refl);
}

taken_on : (child : ℕ) (words : List (List ℕ)) (event : Event) → IsTaken child event → IsOn child words event
taken_on child words (started k argv answer) taken = absurd taken
taken_on child words (wrote k bytes (Ok n)) taken = taken.0
taken_on child words (wrote k bytes (Err fault)) taken = absurd taken
taken_on child words (heard k room answer) taken = absurd taken
taken_on child words (stopped k answer) taken = absurd taken

pub taken_done : (child : ℕ) (event : Event) → IsTaken child event → has_failed event ≡ false
taken_done child (started k argv answer) taken = absurd taken
taken_done child (wrote k bytes (Ok n)) taken = refl
taken_done child (wrote k bytes (Err fault)) taken = absurd taken
taken_done child (heard k room answer) taken = absurd taken
taken_done child (stopped k answer) taken = absurd taken

given_on : (child : ℕ) (words : List (List ℕ)) (event : Event) → IsGiven child event → IsOn child words event
given_on child words (started k argv answer) given = absurd given
given_on child words (wrote k bytes answer) given = absurd given
given_on child words (heard k room (Ok bytes)) given = given
given_on child words (heard k room (Err fault)) given = absurd given
given_on child words (stopped k answer) given = absurd given

pub given_done : (child : ℕ) (event : Event) → IsGiven child event → has_failed event ≡ false
given_done child (started k argv answer) given = absurd given
given_done child (wrote k bytes answer) given = absurd given
given_done child (heard k room (Ok bytes)) given = refl
given_done child (heard k room (Err fault)) given = absurd given
given_done child (stopped k answer) given = absurd given

-- calls that were all done
pub none_failed : (P : Event → Type 0) → ((event : Event) → P event → has_failed event ≡ false) → (events : List Event)
    → All P events
    → failures events ≡ 0
none_failed P done [] each = refl
none_failed P done (event ∷ events) each =
    count_head has_failed event events
    ∙ ap (λ b. cond b 1 0 + failures events) (done event (All-head P event events each)) ∙ zero-add (failures events)
    ∙ none_failed P done events (All-tail P event events each)

-- calls that were all done, and one more
one_failed : {T : Type 0} (P : Event → Type 0) → ((event : Event) → P event → has_failed event ≡ false)
    → (events : List Event) (event : Event) (result : Result T HostFault) → All P events → has_failed event ≡ is_failed result
    → failures (events ++ event ∷ []) ≡ refusals result
one_failed P done events event result each fails =
    count_joined has_failed events (event ∷ []) ∙ ap (λ n. n + failures (event ∷ [])) (none_failed P done events each)
    ∙ zero-add (failures (event ∷ [])) ∙ count_one has_failed event ∙ ap (λ b. cond b 1 0) fails

-- a fault counts the same, whatever else could have been answered
pub same_refusals : (T U : Type 0) (fault : HostFault)
    → refusals (let r : Result T HostFault = Err fault in r) ≡ refusals (let r : Result U HostFault = Err fault in r)
same_refusals T U Failed = refl
same_refusals T U Memory = refl

same_failed : (T U : Type 0) (fault : HostFault)
    → is_failed (let r : Result T HostFault = Err fault in r) ≡ is_failed (let r : Result U HostFault = Err fault in r)
same_failed T U Failed = refl
same_failed T U Memory = refl

-- calls that were all done, of which each is on the child
done_all : {T : Type 0} (P : Event → Type 0) (child : ℕ) (words : List (List ℕ)) (last : ℕ) (old new : Seen) (value : T)
    (events : List Event) (D : List Event → Type 0) → ((event : Event) → P event → IsOn child words event)
    → ((event : Event) → P event → has_failed event ≡ false)
    → Same old.running new.running
    → HasCause Failed last old.faults new.faults (let r : Result T HostFault = Ok value in r) → All P events
    → LogGrows old.log new.log events → D events
    → CalledInner child words last old new 0 D
done_all P child words last old new value events D on done running cause each log does = record {
  others = λ k other. running k;
  later = cause.later;
  rose = λ below. omega (arith, cause.later);
  events = events;
  on = All-weaker P (IsOn child words) on events each;
  failed = none_failed P done events each;
  log = log;
  does = does;
}

-- the same, and one more that was refused
done_part : {T : Type 0} (U : Type 0) (P : Event → Type 0) (child : ℕ) (words : List (List ℕ)) (last : ℕ)
    (old new : Seen) (fault : HostFault) (events : List Event) (event : Event) (D : List Event → Type 0)
    → ((event : Event) → P event → IsOn child words event)
    → ((event : Event) → P event → has_failed event ≡ false)
    → Same old.running new.running
    → HasCause Failed last old.faults new.faults (let r : Result T HostFault = Err fault in r) → All P events
    → IsOn child words event → has_failed event ≡ is_failed (let r : Result U HostFault = Err fault in r)
    → LogGrows old.log new.log (events ++ event ∷ []) → D (events ++ event ∷ [])
    → CalledInner child words last old new (refusals (let r : Result U HostFault = Err fault in r)) D
done_part {T} U P child words last old new fault events event D on done running cause each here fails log does = record {
  others = λ k other. running k;
  later = cause.later;
  rose = λ below. subst (λ n. old.faults + n ≤ new.faults) (same_refusals T U fault)
      (risen last old.faults new.faults (let r : Result T HostFault = Err fault in r) cause below);
  events = events ++ event ∷ [];
  on = All-append (IsOn child words) events (event ∷ []) (All-weaker P (IsOn child words) on events each)
      (all_one (IsOn child words) event here);
  failed = one_failed P done events event (let r : Result U HostFault = Err fault in r) each fails;
  log = log;
  does = does;
}

-- bytes that are written whole
pub called_sent : {T : Type 0} (child : ℕ) (words : List (List ℕ)) (last : ℕ) (old new : Seen) (bytes : List ℕ) (value : T)
    → Same old.running new.running
    → HasCause Failed last old.faults new.faults (let r : Result T HostFault = Ok value in r)
    → LogsTaken child bytes old.log new.log
    → CalledInner child words last old new 0 (Takes child bytes)
called_sent child words last old new bytes value running cause whole =
    done_all (IsTaken child) child words last old new value whole.0 (Takes child bytes) (taken_on child words) (taken_done child)
    running cause whole.1.each whole.2 whole.1

-- the first of some bytes are taken, and then a write is refused
abbrev pub TakesPart : ℕ → List ℕ → HostFault → List Event → Type 0
TakesPart child bytes fault events =
    (taken : List Event) × (n : ℕ) × Takes child (take n bytes) taken
    × (events ≡ taken ++ wrote child (drop n bytes) (Err fault) ∷ [])

-- bytes that are written in part
pub called_unsent : {T : Type 0} (U : Type 0) (child : ℕ) (words : List (List ℕ)) (last : ℕ) (old new : Seen) (bytes : List ℕ)
    (fault : HostFault) → Same old.running new.running
    → HasCause Failed last old.faults new.faults (let r : Result T HostFault = Err fault in r)
    → LogsTakenPart child bytes fault old.log new.log
    → CalledInner child words last old new (refusals (let r : Result U HostFault = Err fault in r)) (TakesPart child bytes fault)
called_unsent {T} U child words last old new bytes fault running cause part =
    done_part {T = T} U (IsTaken child) child words last old new fault part.0 (wrote child (drop part.1 bytes) (Err fault))
    (TakesPart child bytes fault) (taken_on child words) (taken_done child) running cause part.2.each refl (same_failed ℕ U fault)
    part.3 (part.0, part.1, part.2, refl)

-- bytes that are heard
pub called_heard : {T : Type 0} (child : ℕ) (words : List (List ℕ)) (last : ℕ) (old new : Seen) (held bytes : List ℕ) (value : T)
    → Same old.running new.running
    → HasCause Failed last old.faults new.faults (let r : Result T HostFault = Ok value in r)
    → LogsGiven child held bytes old.log new.log
    → CalledInner child words last old new 0 (Gives child held bytes)
called_heard child words last old new held bytes value running cause whole =
    done_all (IsGiven child) child words last old new value whole.0 (Gives child held bytes) (given_on child words)
    (given_done child) running cause whole.1.each whole.2 whole.1

-- bytes without a line feed are given, and then a read is refused
abbrev pub GivesPart : ℕ → List ℕ → HostFault → List Event → Type 0
GivesPart child held fault events =
    (reads : List Event) × (bytes : List ℕ) × (room : ℕ) × Gives child held bytes reads × IsLine (held ++ bytes)
    × (events ≡ reads ++ heard child room (Err fault) ∷ [])

-- bytes that are heard until a read is refused
pub called_missed : {T : Type 0} (U : Type 0) (child : ℕ) (words : List (List ℕ)) (last : ℕ) (old new : Seen) (held : List ℕ)
    (fault : HostFault) → Same old.running new.running
    → HasCause Failed last old.faults new.faults (let r : Result T HostFault = Err fault in r)
    → LogsGivenPart child held fault old.log new.log
    → CalledInner child words last old new (refusals (let r : Result U HostFault = Err fault in r)) (GivesPart child held fault)
called_missed {T} U child words last old new held fault running cause part =
    done_part {T = T} U (IsGiven child) child words last old new fault part.0 (heard child part.2 (Err fault))
    (GivesPart child held fault) (given_on child words) (given_done child) running cause part.3.each refl
    (same_failed (List ℕ) U fault) part.5 (part.0, part.1, part.2, part.3, part.4, refl)
