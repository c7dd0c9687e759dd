-- Batches over a desk, one after another.
use Rattle.std.proofs.Common.{◌≡◌, ◌∙◌, [], ℕ, List, Option, Result, Ok, Err, true, ap, arith, length, refl, sym, subst}
use Rattle.std.proofs.lemmas.Result.{IfErr-weaker, IfOk-weaker, err_from_is_err_and, on_ok_weaker}
use Rattle.std.specs.Result.{IsErrAnd}
use Rattle.std.specs.Prelude.{⊤}
use Rattle.solve_run.proofs.BatchesLemmas.{SoFar, front_wider}
use Rattle.solve_run.specs.Batching.{IsFrontOfBatches, IsFrontOfNext, OnBatches, RanNextBatch, RunsOn}
use Rattle.dream_asks.specs.Progress.{Progress}
use Rattle.round_run.proofs.BreakingLemmas.{tells_memory}
use Rattle.round_run.proofs.BreakingRunLemmas.{run_breaks_as, still_breaks}
use Rattle.round_run.proofs.CallsRunLemmas.{runs_still}
use Rattle.round_run.proofs.GoingLemmas.{between, both, causes_behind, on_first}
use Rattle.round_run.proofs.LedLemmas.{Joins, StillHost, alone, goes_asks, led_none, led_then, still_then}
use Rattle.round_run.proofs.StoppedLemmas.{goes_none, goes_then, stopped_as, stopped_memory, stopped_then}
use Rattle.round_run.proofs.StretchLemmas.{breaks_on, runs_on}
use Rattle.round_run.proofs.TalkingLemmas.{dialogue_told, told_of}
use Rattle.round_run.proofs.TurnLineLemmas.{line_advances, line_breaks}
use Rattle.round_run.specs.Batches.{AreStarted}
use Rattle.round_run.specs.Breaking.{RunBreaks}
use Rattle.round_run.specs.Calls.{Runs}
use Rattle.round_run.specs.Desk.{AtDesk, HasDone, OnBatch, OnTurn, Order, RestsAt}
use Rattle.round_run.specs.Dialogue.{workers_in}
use Rattle.round_run.specs.Resting.{GoesInOrder}
use Rattle.round_run.specs.Talking.{held_of}
use Rattle.round_run.specs.Told.{Became, HostTold, Stretch, Told}
use Rattle.round_run.specs.TurnLines.{IsMarked, TurnBreaks, opens_requests}
use Rattle.round_run.specs.declared.ending.Batch.{Batch}
use Rattle.round_run.specs.declared.fault.RunFault.{RunFault}
use Rattle.round_run.specs.declared.fault.RunFault.TheVariants.{Memory}
use Rattle.task_model.specs.Dreams as dreams
use Rattle.task_model.specs.declared.stream.Instance.{Instance}
use Rattle.task_model.specs.declared.task.Task.{Task}
use Rattle.transcript_model.proofs.LegalNumberLemmas.{asks_marked}
use Rattle.transcript_model.proofs.LegalStepLemmas.{mark_no_ask}
use Rattle.transcript_model.specs.Legal.{HasNoneOpen, IsLegal, asks_of, is_mark}
use Rattle.transcript_model.specs.declared.entry.Entry.{Entry}
use Rattle.transcript_model.specs.declared.head.Head.{Head}

-- a stretch of batches whose entries came so
abbrev pub InBatches : {T : Type 0} → AtDesk → AtDesk → Stretch → Order → (T → Type 0) → (List Entry → Type 0)
    → Result T RunFault → Type 0
InBatches old new c Came What Front r =
    HasDone old.task old.head old new c RestsAt Came (RunBreaks old.task old.head) What Front r

-- ---- the same stretch, seen in another way

-- a fault that is handed on
pub batch_handed : {T U : Type 0} (old new : AtDesk) (c : Stretch) (Came Other : Order) (Some : T → Type 0) (What : U → Type 0)
    (Front Wider : List Entry → Type 0) (fault : RunFault) (r : Result U RunFault) → IsErrAnd r (λ y. y ≡ fault)
    → InBatches old new c Came Some Front (let s : Result T RunFault = Err fault in s)
    → ((es : List Entry) → IsLegal old.head.version old.task es → Front es → Wider es) → InBatches old new c Other What Wider r
batch_handed {T} {U} old new c Came Other Some What Front Wider fault r is done wider =
    let task = old.task in
    let head = old.head in
    let a = old.state.entries in
    let was = c.was.host.log in
    let now = c.now.host.log in
    let p = err_from_is_err_and r is in
    rw (p.1, p.2) (record {
      same = done.same;
      holds = tt;
      ran = tt;
      adds = tt;
      stopped =
          stopped_as head.version task (workers_in head) c.now.host.spoken Wider Front a fault c.was.taken c.now.taken
          (RunBreaks task head a fault was now) (RunBreaks task head a fault was now) wider
          (λ more told there. run_breaks_as task head Front Wider wider a fault was now more) done.stopped;
      state = done.state;
      causes = record {
        host = record { later = done.causes.host.later; cause = λ same. done.causes.host.cause (ap Err (same_fault same)) };
        sink = record { later = done.causes.sink.later; cause = λ same. done.causes.sink.cause (ap Err (same_fault same)) };
      };
      led = done.led;
      still = tt;
    })
  where
    same_fault : {x y : RunFault} → (let s : Result U RunFault = Err x in s) ≡ Err y → x ≡ y
    same_fault e = cc

-- something else is answered of it
pub batch_ok : {T U : Type 0} (old new : AtDesk) (c : Stretch) (Came Other : Order) (Some : T → Type 0) (What : U → Type 0)
    (Front Wider : List Entry → Type 0) (x : T) (y : U)
    → InBatches old new c Came Some Front (let s : Result T RunFault = Ok x in s)
    → (Came old.state.entries new.state.entries c.was.host.log c.now.host.log
    → Other old.state.entries new.state.entries c.was.host.log c.now.host.log) → (Some x → What y)
    → InBatches old new c Other What Wider (let s : Result U RunFault = Ok y in s)
batch_ok old new c Came Other Some What Front Wider x y done order what = record {
  same = done.same;
  holds = done.holds;
  ran = what done.ran;
  adds = record { goes = done.adds.goes; order = order done.adds.order };
  stopped = tt;
  state = done.state;
  causes = record {
    host = record { later = done.causes.host.later; cause = λ is. absurd (cc) };
    sink = record { later = done.causes.sink.later; cause = λ is. absurd (cc) };
  };
  led = done.led;
  still = done.still;
}

-- ---- nothing was done

pub batch_still : {T : Type 0} (desk : AtDesk) (still : StillHost) (taken : Option (List ℕ)) (lost : ℕ)
    (What : T → Type 0) (Front : List Entry → Type 0) (x : T) → RestsAt desk still.told → What x
    → OnBatch desk desk (alone still taken taken lost lost) What Front (let r : Result T RunFault = Ok x in r)
batch_still desk still taken lost What Front x rests what = record {
  same = record { task = refl; head = refl };
  holds = rests;
  ran = what;
  adds = record {
    goes = goes_none desk.state.entries taken;
    order = runs_still desk.task desk.head desk.state.entries still.told.log;
  };
  stopped = tt;
  state = rests.works.listens.state;
  causes = record {
    host = record { later = omega arith; cause = λ is. absurd (cc) };
    sink = record { later = omega arith; cause = λ is. absurd (cc) };
  };
  led = led_none still.leads;
  still = λ none. still.same;
}

-- memory is wanting
pub batch_memory : {T : Type 0} (desk : AtDesk) (still : StillHost) (taken : Option (List ℕ)) (lost : ℕ)
    (What : T → Type 0) (Front : List Entry → Type 0) → RestsAt desk still.told → Front desk.state.entries
    → OnBatch desk desk (alone still taken taken lost lost) What Front (let r : Result T RunFault = Err Memory in r)
batch_memory {T} desk still taken lost What Front rests front =
    let task = desk.task in
    let head = desk.head in
    let s = desk.state in
    let works = rests.works in
    let session = works.listens.session in
    record {
      same = record { task = refl; head = refl };
      holds = tt;
      ran = tt;
      adds = tt;
      stopped =
          stopped_memory head.version task (workers_in head) still.told.spoken Front s.entries Memory taken
          (RunBreaks task head s.entries Memory still.told.log still.told.log)
          (subst (λ v. IsLegal v task s.entries) works.of.version session.legal) front
          (dialogue_told task head.version (workers_in head) s.entries (length s.asked) still.told.running
          (held_of desk.held) still.told.spoken
          session.counted (subst (λ ps. AreStarted ps (length s.asked) still.told.running) works.of.pools rests.started)
          (told_of head s works.of task s.entries still.told.running (held_of desk.held) still.told.spoken works.listens.told))
          (still_breaks task head Front s.entries Memory still.told.log
          (tells_memory (HasNoneOpen s.entries) Memory session.none_open refl)) refl;
      state = works.listens.state;
      causes = record {
        host = record { later = omega arith; cause = λ is. absurd (cc) };
        sink = record { later = omega arith; cause = λ is. absurd (cc) };
      };
      led = led_none still.leads;
      still = tt;
    }

-- ---- one after another

-- batches behind batches
pub batch_then : {T U : Type 0} {early later all : Became} (old mid new : AtDesk) (last : ℕ) (was half now : Told)
    → Joins early later all → (First : T → Type 0)
    (Early : List Entry → Type 0) (Some : Task → Head → U → Type 0) (Front : Task → Head → List Entry → Type 0)
    (What : U → Type 0) (Wider : List Entry → Type 0) (x : T) (r : Result U RunFault)
    → OnBatch old mid (between last was half early) First Early (Ok x)
    → OnBatch mid new (between last half now later) (Some mid.task mid.head) (Front mid.task mid.head) r
    → ((y : U) → Some old.task old.head y → What y)
    → ((es : List Entry) → IsLegal old.head.version old.task es → Front old.task old.head es → Wider es)
    → OnBatch old new (between last was now all) What Wider r
batch_then {T} {U} {early} {later} {all} old mid new last was half now joins First Early Some Front What Wider x r first second what wider =
    let task = old.task in
    let head = old.head in
    let a = old.state.entries in
    let b = mid.state.entries in
    let here = Front task head in
    let next = on_first (λ t h. HasDone t h mid new (between last half now later) RestsAt (Runs t h) (RunBreaks t h) (Some t h)
    (Front t h) r)
    old mid first.same second in
    record {
      same = both old mid new first.same next.same;
      holds = next.holds;
      ran = IfOk-weaker r _ What what next.ran;
      adds = on_ok_weaker r (λ (adds : GoesInOrder b new.state.entries half.taken now.taken
          (Runs task head b new.state.entries half.host.log now.host.log)). record {
            goes = goes_then a b new.state.entries was.taken half.taken now.taken first.adds.goes adds.goes;
            order = runs_on task head a b new.state.entries was.host.log half.host.log now.host.log first.adds.order adds.order;
          }) next.adds;
      stopped = IfErr-weaker r _ _ (λ fault s.
          stopped_then head.version task (workers_in head) now.host.spoken Wider a b fault was.taken half.taken now.taken
          (RunBreaks task head a fault was.host.log now.host.log) (RunBreaks task head b fault half.host.log now.host.log)
          first.adds.goes
          (breaks_on task head Wider a b first.adds.goes.more fault was.host.log half.host.log now.host.log first.adds.order
          first.adds.goes.pushed)
          (stopped_as head.version task (workers_in head) now.host.spoken Wider here b fault half.taken now.taken
          (RunBreaks task head b fault half.host.log now.host.log) (RunBreaks task head b fault half.host.log now.host.log) wider
          (λ more told there. run_breaks_as task head here Wider wider b fault half.host.log now.host.log more) s)) next.stopped;
      state = next.state;
      causes = causes_behind last was half now (let ok : Result T RunFault = Ok x in ok) r first.causes next.causes;
      led = led_then joins first.led next.led;
      still = still_then joins a b new.state.entries (goes_asks a b was.taken half.taken first.adds.goes) first.still r
          (on_ok_weaker r (λ (adds : GoesInOrder b new.state.entries half.taken now.taken
          (Runs task head b new.state.entries half.host.log now.host.log)).
          goes_asks b new.state.entries half.taken now.taken adds.goes) next.adds) next.still;
    }

-- batches behind a line that may have some behind it
pub batches_behind : {T U : Type 0} {early host : Became} (e : Entry) → is_mark e ≡ true → (old mid new : AtDesk)
    → opens_requests old.head.mode e ≡ true → (last : ℕ) (was half now : Told) → half.host ≡ was.host
    → (Early : List Entry → Type 0) (Some : Task → Head → U → Type 0) (Front : Task → Head → List Entry → Type 0)
    (What : U → Type 0) (Wider : List Entry → Type 0) (x : T) (r : Result U RunFault)
    → OnTurn old mid (between last was half early) (λ _. IsMarked e old.state mid.state) Early (Ok x)
    → OnBatches mid new (between last half now host) (Some mid.task mid.head) (Front mid.task mid.head) r
    → ((y : U) → Some old.task old.head y → What y)
    → ((es : List Entry) → IsLegal old.head.version old.task es → Front old.task old.head es → Wider es)
    → OnTurn old new (between last was now host) What Wider r
batches_behind {T} {U} {early} {host} e mark old mid new opens last was half now still Early Some Front What Wider x r first second what wider =
    let task = old.task in
    let head = old.head in
    let a = old.state.entries in
    let b = mid.state.entries in
    let end = new.state.entries in
    let here = Front task head in
    let is = first.ran.entries in
    let log = ap (λ (h : HostTold). h.log) still in
    let next = on_first (λ t h. HasDone t h mid new (between last half now host) RestsAt (RunsOn t h) (RunBreaks t h) (Some t h)
    (Front t h) r)
    old mid first.same second in
    let asks : asks_of b ≡ asks_of a = ap asks_of is ∙ asks_marked a e (mark_no_ask e mark) in
    record {
      same = both old mid new first.same next.same;
      holds = next.holds;
      ran = IfOk-weaker r _ What what next.ran;
      adds = on_ok_weaker r (λ (adds : GoesInOrder b end half.taken now.taken (RunsOn task head b end half.host.log now.host.log)). record {
        goes = goes_then a b end was.taken half.taken now.taken first.adds.goes adds.goes;
        order = line_advances task head e mark opens a b end was.host.log now.host.log is
            (λ none. adds.order.still (none ∙ sym asks) ∙ log)
            (subst (λ l. Runs task head b end l now.host.log) log adds.order.runs);
      }) next.adds;
      stopped = IfErr-weaker r _ _ (λ fault s.
          stopped_then head.version task (workers_in head) now.host.spoken Wider a b fault was.taken half.taken now.taken
          (TurnBreaks task head a fault was.host.log now.host.log) (RunBreaks task head b fault was.host.log now.host.log)
          first.adds.goes
          (line_breaks task head Wider e mark opens a b first.adds.goes.more fault was.host.log now.host.log is first.adds.goes.pushed)
          (stopped_as head.version task (workers_in head) now.host.spoken Wider here b fault half.taken now.taken
          (RunBreaks task head b fault half.host.log now.host.log) (RunBreaks task head b fault was.host.log now.host.log) wider
          (λ more told there broken. run_breaks_as task head here Wider wider b fault was.host.log now.host.log more
          (subst (λ l. RunBreaks task head b fault l now.host.log here more) log broken)) s)) next.stopped;
      state = next.state;
      causes = causes_behind last was half now (let ok : Result T RunFault = Ok x in ok) r first.causes next.causes;
      led = next.led;
      still = on_ok_weaker r (λ (same : asks_of end ≡ asks_of b → host.same) none. same (none ∙ sym asks)) next.still;
    }

-- the next batch of a dream behind those so far
pub next_behind : {early next all : Became} (old mid new : AtDesk) (last : ℕ) (was half now : Told) → Joins early next all → (real : ℕ)
    (entries : List dreams.SupposedEntry)
    (gone later : Progress) (first tried joined : List Instance)
    → SoFar old.head old.task real entries old.state mid.state gone first tried → gone.real ≡ real
    → (r : Result (Option Batch) RunFault)
    → OnBatch old mid (between last was half early) (λ (_ : Unit {0}). ⊤)
    (IsFrontOfBatches old.head old.task real entries [] old.state.entries) (let s : Result (Unit {0}) RunFault = Ok tt in s)
    → OnBatch mid new (between last half now next)
    (RanNextBatch mid.head mid.task entries mid.state new.state gone later tried joined half.host.log now.host.log)
    (IsFrontOfNext mid.head mid.task entries gone mid.state.entries) r
    → OnBatch old new (between last was now all)
    (RanNextBatch old.head old.task entries mid.state new.state gone later tried joined half.host.log now.host.log)
    (IsFrontOfBatches old.head old.task real entries [] old.state.entries) r
next_behind old mid new last was half now joins real entries gone later first tried joined so same r before next =
    let front = IsFrontOfBatches old.head old.task real entries [] old.state.entries in
    let did = λ (t : Task) (h : Head).
    RanNextBatch h t entries mid.state new.state gone later tried joined half.host.log now.host.log in
    batch_then old mid new last was half now joins (λ (_ : Unit {0}). ⊤) front did
    (λ t h. IsFrontOfNext h t entries gone mid.state.entries) (did old.task old.head) front tt r before next (λ b ran. ran)
    (λ es legal f. front_wider old.head old.task real entries so.sent [] old.state.entries so.done mid.state.entries so.pushed so.on es
    (subst (λ n. IsFrontOfBatches old.head old.task n entries so.sent mid.state.entries es) same (f so.sent so.progress)))
