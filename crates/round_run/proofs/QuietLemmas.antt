-- Parts of a run that leave the host alone.
use Rattle.std.proofs.Common.{◌≡◌, ◌⊎◌, ◌++◌, ◌∷◌, ◌∙◌, [], ℕ, List, Option, Result, Ok, Err, true, inl, length, refl, sym, subst, arith}
use Rattle.std.specs.Result.{IfErr, OnOk}
use Rattle.io_world.specs.Faults.{HasCause, last_count}
use Rattle.round_run.proofs.LedLemmas.{StillHost, alone, led_none}
use Rattle.round_run.proofs.TurnLineLemmas.{mark_advances, quiet_turn}
use Rattle.round_run.proofs.MarkLemmas.{rests_marked}
use Rattle.round_run.specs.TurnLines.{TurnBreaks, IsMarked}
use Rattle.round_run.specs.Desk.{AtDesk, IsFrontOfMark, OnTurn, RestsAt}
use Rattle.round_run.specs.Told.{HostTold, quiet}
use Rattle.round_run.proofs.BreakingLemmas.{tells_memory, tells_written}
use Rattle.round_run.proofs.StoppedLemmas.{on_ok, stopped_as, stopped_memory, written_no_generator}
use Rattle.round_run.proofs.TalkingLemmas.{dialogue_told, told_of}
use Rattle.round_run.specs.Batches.{AreStarted}
use Rattle.round_run.specs.Dialogue.{workers_in}
use Rattle.round_run.specs.Held.{Held}
use Rattle.round_run.specs.Resting.{Rests}
use Rattle.round_run.specs.Rolling.{Goes, Stopped}
use Rattle.round_run.specs.Stops.{MayWrite}
use Rattle.round_run.specs.Talking.{held_of}
use Rattle.round_run.specs.declared.fault.RunFault.{RunFault}
use Rattle.round_run.specs.declared.fault.RunFault.TheVariants.{Generator, Memory, Write}
use Rattle.session_core.specs.Session.{IsSession}
use Rattle.session_core.specs.State.{State}
use Rattle.task_model.specs.declared.task.Task.{Task}
use Rattle.transcript_model.specs.Legal.{HasNoneOpen, IsLegal, is_mark}
use Rattle.transcript_model.specs.declared.entry.Entry.{Entry}
use Rattle.transcript_model.specs.declared.entry.Entry.TheVariants as entry
use Rattle.transcript_model.specs.declared.head.Head.{Head}

-- an entry was to be put behind the transcript
module _ (task : Task) (head : Head) (held : Held) (e : Entry) (mark : is_mark e ≡ true) (s new : State) (host : HostTold)
    (rests : Rests task head s held host.running host.spoken) (last : ℕ) (taken_old taken_new : Option (List ℕ))
    (lost_old lost_new : ℕ) where
  abbrev Marked : Result (Unit {0}) RunFault → Type 0
  Marked r =
      OnTurn (record { task = task; head = head; state = s; held = held }) (record { task = task; head = head; state = new; held = held })
      (quiet last host taken_old taken_new lost_old lost_new) (λ _. IsMarked e s new) (IsFrontOfMark s.entries e) r

  pub mark_turn : (r : Result (Unit {0}) RunFault) → OnOk r (IsMarked e s new) → IsSession task new
      → OnOk r (Goes s.entries (s.entries ++ e ∷ []) taken_old taken_new)
      → IfErr r (λ fault. Stopped s.version task s.pools (IsFrontOfMark s.entries e) s.entries fault taken_old taken_new host.spoken
      (λ Front more. (more ≡ []) ⊎ (more ≡ e ∷ [])))
      → IfErr r MayWrite → HasCause Write last_count lost_old lost_new r → Marked r
  mark_turn (Ok x) marked session goes stopped only cause = record {
    same = record { task = refl; head = refl };
    holds = rests_marked task head e mark s new held host.running host.spoken marked session rests;
    ran = marked;
    adds = record {
      goes = subst (λ es. Goes s.entries es taken_old taken_new) (sym marked.entries) goes;
      order = mark_advances task head e mark s.entries new.entries host.log marked.entries;
    };
    stopped = tt;
    state = rests.works.listens.state;
    causes = record { host = record { later = omega arith; cause = λ is. absurd (cc) }; sink = cause };
    led = led_none tt;
    still = λ none. tt;
  }
  mark_turn (Err fault) marked session goes stopped only cause =
      let works = rests.works in
      let at = IsFrontOfMark s.entries e in
      let log = λ (Front : List Entry → Type 0) (more : List Entry). (more ≡ []) ⊎ (more ≡ e ∷ []) in
      record {
        same = record { task = refl; head = refl };
        holds = tt;
        ran = tt;
        adds = tt;
        stopped =
            stopped_as head.version task (workers_in head) host.spoken at at s.entries fault taken_old taken_new log
            (TurnBreaks task head s.entries fault host.log host.log) (λ es legal there. there)
            (λ more told there. quiet_turn task head at e mark s.entries fault host.log
            (tells_written (HasNoneOpen s.entries) fault works.listens.session.none_open only) more)
            (subst (λ v. Stopped v task (workers_in head) at s.entries fault taken_old taken_new host.spoken log) works.of.version
            (subst (λ ps. Stopped s.version task ps at s.entries fault taken_old taken_new host.spoken log) works.of.pools stopped));
        state = works.listens.state;
        causes = record {
          host = record { later = omega arith; cause = λ is. absurd (written_no_generator fault only (same_fault is)) };
          sink = cause;
        };
        led = led_none tt;
        still = tt;
      }
    where
      same_fault : {x y : RunFault} → (let r : Result (Unit {0}) RunFault = Err x in r) ≡ Err y → x ≡ y
      same_fault is = cc

-- such a part, told of a host that is left alone
pub turn_alone : {T : Type 0} (old new : AtDesk) (still : StillHost) (taken taken_now : Option (List ℕ)) (lost lost_now : ℕ)
    (What : T → Type 0) (Front : List Entry → Type 0) (r : Result T RunFault)
    → OnTurn old new (quiet still.last still.told taken taken_now lost lost_now) What Front r
    → OnTurn old new (alone still taken taken_now lost lost_now) What Front r
turn_alone {T} old new still taken taken_now lost lost_now What Front r goes = record {
  same = goes.same;
  holds = goes.holds;
  ran = goes.ran;
  adds = goes.adds;
  stopped = goes.stopped;
  state = goes.state;
  causes = goes.causes;
  led = led_none still.leads;
  still = on_ok r _ (λ none. still.same);
}

-- memory was wanting, and nothing was done
pub turn_memory : {T : Type 0} (desk : AtDesk) (still : StillHost) (taken : Option (List ℕ)) (lost : ℕ)
    (What : T → Type 0) (Front : List Entry → Type 0) (fault : RunFault) → RestsAt desk still.told → fault ≡ Memory
    → (IsLegal desk.head.version desk.task desk.state.entries → Front desk.state.entries)
    → OnTurn desk desk (alone still taken taken lost lost) What Front (let r : Result T RunFault = Err fault in r)
turn_memory {T} desk still taken lost What Front fault rests memory front =
    let task = desk.task in
    let head = desk.head in
    let s = desk.state in
    let works = rests.works in
    let session = works.listens.session in
    let legal = subst (λ v. IsLegal v task s.entries) works.of.version session.legal in
    let talks = dialogue_told task head.version (workers_in head) s.entries (length s.asked) still.told.running (held_of desk.held) still.told.spoken
    session.counted (subst (λ ps. AreStarted ps (length s.asked) still.told.running) works.of.pools rests.started)
    (told_of head s works.of task s.entries still.told.running (held_of desk.held) still.told.spoken works.listens.told) in
    record {
      same = record { task = refl; head = refl };
      holds = tt;
      ran = tt;
      adds = tt;
      stopped =
          stopped_memory head.version task (workers_in head) still.told.spoken Front s.entries fault taken
          (TurnBreaks task head s.entries fault still.told.log still.told.log) legal (front legal) talks
          (quiet_turn task head Front entry.Level refl s.entries fault still.told.log
          (tells_memory (HasNoneOpen s.entries) fault session.none_open memory) [] (inl refl)) memory;
      state = works.listens.state;
      causes = record {
        host = record { later = omega arith; cause = λ is. absurd (no_generator memory (same_fault is)) };
        sink = record { later = omega arith; cause = λ is. absurd (no_write memory (same_fault is)) };
      };
      led = led_none still.leads;
      still = tt;
    }
  where
    same_fault : {x y : RunFault} → (let r : Result T RunFault = Err x in r) ≡ Err y → x ≡ y
    same_fault is = cc

    no_generator : fault ≡ Memory → fault ≡ Generator → ⊥
    no_generator a b = let bad : Memory ≡ Generator = sym a ∙ b in cc

    no_write : fault ≡ Memory → fault ≡ Write → ⊥
    no_write a b = let bad : Memory ≡ Write = sym a ∙ b in cc
