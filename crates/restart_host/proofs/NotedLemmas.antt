-- Calls that are noted.
use Rattle.std.proofs.Common.{◌≡◌, ◌≢◌, ℕ, ◌+◌, ◌<◌, ◌≤◌, arith, Bool, true, false, cond, List, [], ◌∷◌, ◌++◌, length, take, Some, None, Result, Ok, Err, IfOk, MatchResult, refl, sym, ap, ◌∙◌, inl, inr, if◌then◌else◌, ◌==◌}
use Rattle.std.proofs.lemmas.Bool.{eq-eqb}
use Rattle.std.proofs.lemmas.List.{length-take-le}
use Rattle.std.proofs.lemmas.Bool.Decides.{eqb_tells}
use Rattle.lemmas.proofs.Counts.{count_last}
use Rattle.io_world.specs.Leads.{wants_memory}
use Rattle.io_world.specs.Logs.{Calls, Notes, said_of, told_of}
use Rattle.io_world.specs.Talks.{Event, Talk, started, wrote, heard, stopped, given, silence, said_after, spelled, LogGrows, Logs, Same, Empties, Writes, Hears}
use Rattle.io_world.specs.declared.host.HostFault.{HostFault}
use Rattle.io_world.specs.declared.host.HostFault.TheVariants.{Failed, Memory}
use Rattle.restart_host.specs.Noted.{IsCallNoted, Lost}
use Rattle.restart_host.specs.Tries.{failures, has_failed, is_failed, refusals}

told_more : (was now : Bool) (old new : List Event) (event : Event) → now ≡ was → new ≡ old ++ event ∷ []
    → LogGrows (if was then Some old else None) (if now then Some new else None) (event ∷ [])
told_more was false old new event same grew = tt
told_more true true old new event same grew = (old, refl, grew)
told_more false true old new event same grew = absurd (cc (same))

told_lost : (was now : Bool) (old new : List Event) (event : Event) → now ≡ false
    → LogGrows (if was then Some old else None) (if now then Some new else None) (event ∷ [])
told_lost was false old new event lost = tt
told_lost was true old new event lost = absurd (cc (lost))

-- a log that is whole is told
pub told_whole : (calls : Calls) → calls.whole ≡ true → told_of calls ≡ Some calls.events
told_whole calls whole = rw whole refl

-- the log that is told has the call more
pub noted_log : {T : Type 0} (old new : Calls) (event : Event) (result : Result T HostFault) → IsCallNoted old new event result
    → Logs (told_of old) (told_of new) event
noted_log old new event result is = elim is.noted [
  | inl noted ↦ told_more old.whole new.whole old.events new.events event noted.whole noted.events
  | inr lost ↦ told_lost old.whole new.whole old.events new.events event lost.1.whole
]

-- nothing was said by a call that got lost
lost_same : (old new : Calls) → Lost old new → Same (said_of old) (said_of new)
lost_same old new lost k = ap (λ events. Some (spelled k silence events)) lost.events

-- another child's number isn't this one
pub not_equal : (child k : ℕ) → k ≢ child → (child == k) ≡ false
not_equal child k other = elim (eqb_tells child k) [
  | inl same ↦ absurd (other (sym same.1))
  | inr differs ↦ differs.0
]

-- nothing was said
noted_same : (old new : Calls) (event : Event) → ((k : ℕ) (talk : Talk) → said_after k talk event ≡ talk)
    → Notes old new event
    → Same (said_of old) (said_of new)
noted_same old new event nothing noted k = noted.said k ∙ ap Some (nothing k (spelled k silence old.events))

-- a start that is noted
pub noted_start : (child : ℕ) (argv : List (List ℕ)) (old new : Calls) (result : Result (Unit {0}) HostFault)
    → IsCallNoted old new (started child argv result) result
    → MatchResult result (λ _. Empties child (said_of old) (said_of new)) (λ _. Same (said_of old) (said_of new))
noted_start child argv old new (Ok u) is = elim is.noted [
  | inl noted ↦ record {
    here = noted.said child ∙ rw (eq-eqb child child refl) refl;
    others = λ k other. noted.said k ∙ rw (not_equal child k other) refl;
  }
  | inr lost ↦ absurd (cc (lost.0))
]
noted_start child argv old new (Err fault) is = elim is.noted [
  | inl noted ↦ noted_same old new (started child argv (Err fault)) (λ k talk. refl) noted
  | inr lost ↦ lost_same old new lost.1
]

-- a write that is noted
pub noted_write : (child : ℕ) (bytes : List ℕ) (old new : Calls) (result : Result ℕ HostFault)
    → IsCallNoted old new (wrote child bytes result) result
    → MatchResult result (λ n. Writes child (take n bytes) (said_of old) (said_of new)) (λ _. Same (said_of old) (said_of new))
noted_write child bytes old new (Ok n) is = elim is.noted [
  | inl noted ↦ record {
    here = noted.said child ∙ rw (eq-eqb child child refl) refl;
    others = λ k other. noted.said k ∙ rw (not_equal child k other) refl;
  }
  | inr lost ↦ absurd (cc (lost.0))
]
noted_write child bytes old new (Err fault) is = elim is.noted [
  | inl noted ↦ noted_same old new (wrote child bytes (Err fault)) (λ k talk. refl) noted
  | inr lost ↦ lost_same old new lost.1
]

-- a read that is noted
pub noted_read : (child size : ℕ) (room : List ℕ) (old new : Calls) (result : Result ℕ HostFault)
    → IsCallNoted old new (heard child size (given result room)) result
    → MatchResult result (λ n. Hears child (take n room) (said_of old) (said_of new)) (λ _. Same (said_of old) (said_of new))
noted_read child size room old new (Ok n) is = elim is.noted [
  | inl noted ↦ record {
    here = noted.said child ∙ rw (eq-eqb child child refl) refl;
    others = λ k other. noted.said k ∙ rw (not_equal child k other) refl;
  }
  | inr lost ↦ absurd (cc (lost.0))
]
noted_read child size room old new (Err fault) is = elim is.noted [
  | inl noted ↦ noted_same old new (heard child size (Err fault)) (λ k talk. refl) noted
  | inr lost ↦ lost_same old new lost.1
]

-- a stop that is noted
pub noted_stop : (child : ℕ) (old new : Calls) (answer : Result (Unit {0}) HostFault)
    → Notes old new (stopped child answer)
    → Same (said_of old) (said_of new)
noted_stop child old new answer noted = noted_same old new (stopped child answer) (λ k talk. refl) noted

-- the log stays whole unless memory was wanting
pub noted_whole : {T : Type 0} (old new : Calls) (event : Event) (result : Result T HostFault)
    → IsCallNoted old new event result → wants_memory result ≡ false → new.whole ≡ old.whole
noted_whole old new event result is quiet = elim is.noted [
  | inl noted ↦ noted.whole
  | inr lost ↦ absurd (cc (lost.0, quiet))
]

pub noted_lost : {T : Type 0} (old new : Calls) (event : Event) (result : Result T HostFault)
    → IsCallNoted old new event result → new.whole ≡ true → old.whole ≡ true
noted_lost old new event result is whole = elim is.noted [
  | inl noted ↦ sym noted.whole ∙ whole
  | inr lost ↦ absurd (cc (lost.1.whole, whole))
]

-- ---- how many of the calls failed

-- one more, where the call that came failed
pub failures_noted : (old new : Calls) (event : Event) → Notes old new event
    → failures new.events ≡ failures old.events + cond (has_failed event) 1 0
failures_noted old new event noted = ap failures noted.events ∙ count_last has_failed old.events event

pub noted_failures : {T : Type 0} (old new : Calls) (event : Event) (result : Result T HostFault)
    → IsCallNoted old new event result → has_failed event ≡ is_failed result → wants_memory result ≡ false
    → failures new.events ≡ failures old.events + refusals result
noted_failures old new event result is fails quiet = elim is.noted [
  | inl noted ↦ failures_noted old new event noted ∙ ap (λ b. failures old.events + cond b 1 0) fails
  | inr lost ↦ absurd (cc (lost.0, quiet))
]

-- a read failed where it answers so
pub given_failed : (result : Result ℕ HostFault) (room : List ℕ) → is_failed (given result room) ≡ is_failed result
given_failed (Ok n) room = refl
given_failed (Err Failed) room = refl
given_failed (Err Memory) room = refl

-- a read gives some bytes
pub given_some : (result : Result ℕ HostFault) (room : List ℕ) → IfOk result (λ n. (0 < n) × (n ≤ length room))
    → IfOk (given result room) (λ bytes. 0 < length bytes)
given_some (Ok n) room count = let size = length-take-le n room count.1 in omega (arith, size, count.0)
given_some (Err fault) room count = tt

-- ---- what calls make of the log

pub noted_by : {T : Type 0} (old new : Calls) (event : Event) (result : Result T HostFault) → Notes old new event
    → IsCallNoted old new event result
noted_by old new event result noted = record { noted = inl noted }

-- the call got lost
pub noted_none : {T : Type 0} (old mid new : Calls) (event : Event) → mid.events ≡ old.events
    → new ≡ record mid { whole = false }
    → IsCallNoted old new event (let r : Result T HostFault = Err Memory in r)
noted_none old mid new event same loses = record {
  noted = inr (
    refl,
    record {
      events = ap (λ (c : Calls). c.events) loses ∙ same;
      whole = ap (λ (c : Calls). c.whole) loses;
    },
  );
}

-- the call was noted, behind a change of the room that is kept
pub notes_after : (old mid new : Calls) (event : Event) → mid.events ≡ old.events → mid.whole ≡ old.whole
    → Notes mid new event → Notes old new event
notes_after old mid new event events whole noted = record {
  events = noted.events ∙ ap (λ list. list ++ event ∷ []) events;
  whole = noted.whole ∙ whole;
  said = λ k. noted.said k ∙ ap (λ list. Some (said_after k (spelled k silence list) event)) events;
}
