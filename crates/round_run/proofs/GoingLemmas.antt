-- Parts of a run over a desk, one after another.
use Rattle.std.proofs.Common.{◌≡◌, ◌≤◌, ℕ, Bool, List, Option, Result, Ok, Err, true, sym, subst, ap, arith, ◌∙◌}
use Rattle.std.proofs.lemmas.Result.{IfErr-weaker, IfOk-weaker, err_from_is_err_and, on_ok_weaker}
use Rattle.std.specs.Result.{IfOk, IsErrAnd, OnOk}
use Rattle.io_world.specs.Faults.{HasCause, last_count}
use Rattle.io_world.specs.Talks.{Talk}
use Rattle.round_run.proofs.LedLemmas.{Joins, goes_asks, led_then, still_then}
use Rattle.round_run.proofs.TurnLineLemmas.{advances_on, line_advances, line_breaks, turn_breaks_as, turn_breaks_on}
use Rattle.round_run.specs.TurnLines.{Advances, TurnBreaks, IsMarked, opens_requests}
use Rattle.round_run.specs.Desk.{AtDesk, Broken, HasDone, IsSameDesk, OnBatch, OnTurn, Order, RestsAt}
use Rattle.round_run.specs.Told.{Became, Stretch, Told}
use Rattle.round_run.proofs.BreakingRunLemmas.{run_breaks_as}
use Rattle.round_run.proofs.StoppedLemmas.{goes_then, stopped_as, stopped_then}
use Rattle.round_run.specs.Breaking.{RunBreaks}
use Rattle.round_run.specs.Calls.{Runs}
use Rattle.round_run.specs.Dialogue.{workers_in}
use Rattle.round_run.specs.Resting.{AreCaused, GoesInOrder, Rests}
use Rattle.round_run.specs.declared.fault.RunFault.{RunFault}
use Rattle.round_run.specs.declared.fault.RunFault.TheVariants.{Generator, Write}
use Rattle.session_core.specs.State.{State}
use Rattle.task_model.specs.declared.task.Task.{Task}
use Rattle.transcript_model.specs.Legal.{IsLegal, asks_of, is_mark}
use Rattle.transcript_model.specs.declared.entry.Entry.{Entry}
use Rattle.transcript_model.specs.declared.head.Head.{Head}

-- from what was told here to what was told there
abbrev pub between : ℕ → Told → Told → Became → Stretch
between last was now host = record { last = last; was = was; now = now; host = host }

-- two desks one after another
pub both : (old mid new : AtDesk) → IsSameDesk old mid → IsSameDesk mid new → IsSameDesk old new
both old mid new first second = record { task = second.task ∙ first.task; head = second.head ∙ first.head }

-- ---- causes

pub cause_behind : {T E : Type 0} (failed : E) (last a b c : ℕ) (r : Result T E) → a ≤ b → HasCause failed last b c r
    → HasCause failed last a c r
cause_behind failed last a b c r less second = record {
  later = omega (arith, less, second.later);
  cause = λ is. omega (arith, less, second.cause is);
}

-- the causes of what came behind something that went well
pub causes_behind : {T U : Type 0} (last : ℕ) (was half now : Told) (first : Result T RunFault) (r : Result U RunFault)
    → AreCaused last was.host.faults half.host.faults was.lost half.lost first
    → AreCaused last half.host.faults now.host.faults half.lost now.lost r
    → AreCaused last was.host.faults now.host.faults was.lost now.lost r
causes_behind last was half now first r a b = record {
  host = cause_behind Generator last was.host.faults half.host.faults now.host.faults r a.host.later b.host;
  sink = cause_behind Write last_count was.lost half.lost now.lost r a.sink.later b.sink;
}

-- ---- another desk of the same task and head

module _ {T : Type 0} (old new : AtDesk) (c : Stretch) (Came : Task → Head → Order) (Broke : Task → Head → Broken)
    (What : Task → Head → T → Type 0) (Front : Task → Head → List Entry → Type 0) (r : Result T RunFault) where
  goes_of : (t u : Task) (h k : Head) → t ≡ u → h ≡ k
      → HasDone t h old new c RestsAt (Came t h) (Broke t h) (What t h) (Front t h) r
      → HasDone u k old new c RestsAt (Came u k) (Broke u k) (What u k) (Front u k) r
  goes_of t u h k tasks heads goes =
      subst (λ x. HasDone u x old new c RestsAt (Came u x) (Broke u x) (What u x) (Front u x) r) heads
      (subst (λ x. HasDone x h old new c RestsAt (Came x h) (Broke x h) (What x h) (Front x h) r) tasks goes)

-- ---- one after another

-- what came behind a part of a turn is of the same turn
pub turn_then : {T U : Type 0} {early later all : Became} (old mid new : AtDesk) (last : ℕ) (was half now : Told) → Joins early later all
    → (First : T → Type 0) (Early : List Entry → Type 0) (Some : Task → Head → U → Type 0) (Front : Task → Head → List Entry → Type 0)
    (What : U → Type 0) (Wider : List Entry → Type 0) (x : T) (r : Result U RunFault)
    → OnTurn old mid (between last was half early) First Early (Ok x)
    → OnTurn mid new (between last half now later) (Some mid.task mid.head) (Front mid.task mid.head) r
    → ((y : U) → Some old.task old.head y → What y)
    → ((es : List Entry) → IsLegal old.head.version old.task es → Front old.task old.head es → Wider es)
    → OnTurn old new (between last was now all) What Wider r
turn_then {T} {U} {early} {later} {all} old mid new last was half now joins First Early Some Front What Wider x r first second what wider =
    let task = old.task in
    let head = old.head in
    let a = old.state.entries in
    let b = mid.state.entries in
    let here = Front task head in
    let next = goes_of mid new (between last half now later) (λ t h. Advances t h) (λ t h. TurnBreaks t h) Some Front r mid.task task
    mid.head head first.same.task first.same.head second in
    record {
      same = both old mid new first.same next.same;
      holds = next.holds;
      ran = IfOk-weaker r _ What what next.ran;
      adds = on_ok_weaker r (λ (adds : GoesInOrder b new.state.entries half.taken now.taken
          (Advances task head b new.state.entries half.host.log now.host.log)). record {
            goes = goes_then a b new.state.entries was.taken half.taken now.taken first.adds.goes adds.goes;
            order = advances_on task head a b new.state.entries was.host.log half.host.log now.host.log first.adds.order adds.order;
          }) next.adds;
      stopped = IfErr-weaker r _ _ (λ fault s.
          stopped_then head.version task (workers_in head) now.host.spoken Wider a b fault was.taken half.taken now.taken
          (TurnBreaks task head a fault was.host.log now.host.log) (TurnBreaks task head b fault half.host.log now.host.log)
          first.adds.goes
          (turn_breaks_on task head Wider a b first.adds.goes.more fault was.host.log half.host.log now.host.log first.adds.order
          first.adds.goes.pushed)
          (stopped_as head.version task (workers_in head) now.host.spoken Wider here b fault half.taken now.taken
          (TurnBreaks task head b fault half.host.log now.host.log) (TurnBreaks task head b fault half.host.log now.host.log) wider
          (λ more told there. turn_breaks_as task head here Wider wider b fault half.host.log now.host.log more) s)) next.stopped;
      state = next.state;
      causes = causes_behind last was half now (let ok : Result T RunFault = Ok x in ok) r first.causes next.causes;
      led = led_then joins first.led next.led;
      still = still_then joins a b new.state.entries (goes_asks a b was.taken half.taken first.adds.goes) first.still r
          (on_ok_weaker r (λ (adds : GoesInOrder b new.state.entries half.taken now.taken
          (Advances task head b new.state.entries half.host.log now.host.log)).
          goes_asks b new.state.entries half.taken now.taken adds.goes) next.adds) next.still;
    }

-- a batch behind a line that may have requests behind it
pub line_then : {T U : Type 0} {early host : Became} (e : Entry) → is_mark e ≡ true → (old mid new : AtDesk) → opens_requests old.head.mode e ≡ true
    → (last : ℕ) (was half now : Told) → half.host ≡ was.host → (Early : List Entry → Type 0)
    → (Some : Task → Head → U → Type 0) (Front : Task → Head → List Entry → Type 0)
    (What : U → Type 0) (Wider : List Entry → Type 0) (x : T) (r : Result U RunFault)
    → OnTurn old mid (between last was half early) (λ _. IsMarked e old.state mid.state) Early (Ok x)
    → OnBatch mid new (between last half now host) (Some mid.task mid.head) (Front mid.task mid.head) r
    → ((y : U) → Some old.task old.head y → RestsAt new now.host → asks_of new.state.entries ≡ asks_of old.state.entries → ⊥)
    → ((y : U) → Some old.task old.head y → What y)
    → ((es : List Entry) → IsLegal old.head.version old.task es → Front old.task old.head es → Wider es)
    → OnTurn old new (between last was now host) What Wider r
line_then {T} {U} {early} {host} e mark old mid new opens last was half now still Early Some Front What Wider x r first second asks what wider =
    let task = old.task in
    let head = old.head in
    let a = old.state.entries in
    let b = mid.state.entries in
    let here = Front task head in
    let is = first.ran.entries in
    let log = ap (λ h. h.log) still in
    let next = goes_of mid new (between last half now host) (λ t h. Runs t h) (λ t h. RunBreaks t h) Some Front r mid.task task
    mid.head head first.same.task first.same.head second in
    record {
      same = both old mid new first.same next.same;
      holds = next.holds;
      ran = IfOk-weaker r _ What what next.ran;
      adds = added r next.ran next.holds next.adds;
      stopped = IfErr-weaker r _ _ (λ fault s.
          stopped_then head.version task (workers_in head) now.host.spoken Wider a b fault was.taken half.taken now.taken
          (TurnBreaks task head a fault was.host.log now.host.log) (RunBreaks task head b fault was.host.log now.host.log)
          first.adds.goes
          (line_breaks task head Wider e mark opens a b first.adds.goes.more fault was.host.log now.host.log is
          first.adds.goes.pushed)
          (stopped_as head.version task (workers_in head) now.host.spoken Wider here b fault half.taken now.taken
          (RunBreaks task head b fault half.host.log now.host.log) (RunBreaks task head b fault was.host.log now.host.log) wider
          (λ more told there broken. run_breaks_as task head here Wider wider b fault was.host.log now.host.log more
          (subst (λ l. RunBreaks task head b fault l now.host.log here more) log broken)) s)) next.stopped;
      state = next.state;
      causes = causes_behind last was half now (let ok : Result T RunFault = Ok x in ok) r first.causes next.causes;
      led = next.led;
      still = asked r next.ran next.holds;
    }
  where
    asked : (q : Result U RunFault) → IfOk q (Some old.task old.head) → OnOk q (RestsAt new now.host)
        → OnOk q (asks_of new.state.entries ≡ asks_of old.state.entries → host.same)
    asked (Ok y) ran there = λ none. absurd (asks y ran there none)
    asked (Err fault) ran there = tt

    added : (q : Result U RunFault) → IfOk q (Some old.task old.head) → OnOk q (RestsAt new now.host)
        → OnOk q (GoesInOrder mid.state.entries new.state.entries half.taken now.taken
        (Runs old.task old.head mid.state.entries new.state.entries half.host.log now.host.log))
        → OnOk q (GoesInOrder old.state.entries new.state.entries was.taken now.taken
        (Advances old.task old.head old.state.entries new.state.entries was.host.log now.host.log))
    added (Ok y) ran there adds = record {
      goes = goes_then old.state.entries mid.state.entries new.state.entries was.taken half.taken now.taken first.adds.goes adds.goes;
      order = line_advances old.task old.head e mark opens old.state.entries mid.state.entries new.state.entries was.host.log now.host.log
          first.ran.entries (λ none. absurd (asks y ran there none))
          (subst (λ l. Runs old.task old.head mid.state.entries new.state.entries l now.host.log) (ap (λ h. h.log) still) adds.order);
    }
    added (Err fault) ran there adds = tt

-- ---- the same part, seen in another way

pub turn_as : {T : Type 0} (old new : AtDesk) (c : Stretch) (Some What : T → Type 0) (Front Wider : List Entry → Type 0)
    (r : Result T RunFault) → OnTurn old new c Some Front r → ((y : T) → Some y → What y)
    → ((es : List Entry) → IsLegal old.head.version old.task es → Front es → Wider es) → OnTurn old new c What Wider r
turn_as old new c Some What Front Wider r goes what wider =
    let task = old.task in
    let head = old.head in
    let a = old.state.entries in
    record {
      same = goes.same;
      holds = goes.holds;
      ran = IfOk-weaker r Some What what goes.ran;
      adds = goes.adds;
      stopped = IfErr-weaker r _ _ (λ fault s.
          stopped_as head.version task (workers_in head) c.now.host.spoken Wider Front a fault c.was.taken c.now.taken
          (TurnBreaks task head a fault c.was.host.log c.now.host.log) (TurnBreaks task head a fault c.was.host.log c.now.host.log) wider
          (λ more told there. turn_breaks_as task head Front Wider wider a fault c.was.host.log c.now.host.log more) s) goes.stopped;
      state = goes.state;
      causes = goes.causes;
      led = goes.led;
      still = goes.still;
    }

-- a fault that is handed on
pub turn_handed : {T U : Type 0} (old new : AtDesk) (c : Stretch) (Some : T → Type 0) (What : U → Type 0)
    (Front Wider : List Entry → Type 0) (fault : RunFault) (r : Result U RunFault) → IsErrAnd r (λ y. y ≡ fault)
    → OnTurn old new c Some Front (let s : Result T RunFault = Err fault in s)
    → ((es : List Entry) → IsLegal old.head.version old.task es → Front es → Wider es) → OnTurn old new c What Wider r
turn_handed {T} {U} old new c Some What Front Wider fault r is goes wider =
    let p = err_from_is_err_and r is in
    let all = turn_as old new c Some Some Front Wider (let s : Result T RunFault = Err fault in s) goes (λ y some. some) wider in
    rw (p.1, p.2) (record {
      same = all.same;
      holds = tt;
      ran = tt;
      adds = tt;
      stopped = all.stopped;
      state = all.state;
      causes = record {
        host = record { later = all.causes.host.later; cause = λ same. all.causes.host.cause (ap Err (same_fault same)) };
        sink = record { later = all.causes.sink.later; cause = λ same. all.causes.sink.cause (ap Err (same_fault same)) };
      };
      led = all.led;
      still = tt;
    })
  where
    same_fault : {x y : RunFault} → (let s : Result U RunFault = Err x in s) ≡ Err y → x ≡ y
    same_fault e = cc

-- the same part, of which something else is answered
pub turn_ok : {T U : Type 0} (old new : AtDesk) (c : Stretch) (Some : T → Type 0) (What : U → Type 0)
    (Front Wider : List Entry → Type 0) (x : T) (y : U) → OnTurn old new c Some Front (let s : Result T RunFault = Ok x in s)
    → (Some x → What y) → OnTurn old new c What Wider (let s : Result U RunFault = Ok y in s)
turn_ok old new c Some What Front Wider x y goes what = record {
  same = goes.same;
  holds = goes.holds;
  ran = what goes.ran;
  adds = goes.adds;
  stopped = tt;
  state = goes.state;
  causes = record {
    host = record { later = goes.causes.host.later; cause = λ is. absurd (cc) };
    sink = record { later = goes.causes.sink.later; cause = λ is. absurd (cc) };
  };
  led = goes.led;
  still = goes.still;
}

-- what is so of the task and head of a desk is so of those of the first
pub on_first : (P : Task → Head → Type 0) (old new : AtDesk) → IsSameDesk old new → P new.task new.head → P old.task old.head
on_first P old new same this = subst (λ h. P old.task h) same.head (subst (λ t. P t new.head) same.task this)

pub rests_on : (old new : AtDesk) {running : ℕ → Bool} {spoken : ℕ → Option Talk} → IsSameDesk old new
    → Rests new.task new.head new.state new.held running spoken → Rests old.task old.head new.state new.held running spoken
rests_on old new {running} {spoken} same rests = on_first (λ t h. Rests t h new.state new.held running spoken) old new same rests

-- what is so of a desk is so of its parts, and the other way round
module _ (P : Task → Head → State → Type 0) (desk : AtDesk) (task : Task) (head : Head) (s : State) (tasks : task ≡ desk.task)
    (heads : head ≡ desk.head) (states : s ≡ desk.state) where
  pub of_parts : P desk.task desk.head desk.state → P task head s
  of_parts this =
      subst (λ x. P x head s) (sym tasks)
      (subst (λ x. P desk.task x s) (sym heads) (subst (λ x. P desk.task desk.head x) (sym states) this))

  pub to_parts : P task head s → P desk.task desk.head desk.state
  to_parts this =
      subst (λ x. P desk.task desk.head x) states (subst (λ x. P desk.task x s) heads (subst (λ x. P x head s) tasks this))
