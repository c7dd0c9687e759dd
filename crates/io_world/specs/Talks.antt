-- What was said with children, and the list of all calls on them.
use Rattle.std.specs.Prelude.{◌≡◌, ◌≢◌, ℕ, List, [], ◌∷◌, ◌++◌, take, drop, Result, Option, Some, None, Ok, Err, ◌==◌, if◌then◌else◌, option_map, ◌<◌, ◌≤◌, length, ⊤, IfOk}
use Rattle.std.specs.List.{All}
use Rattle.io_world.specs.Replies.{IsLine, HasLine}
use Rattle.io_world.specs.Faults.{Extends}
use Rattle.io_world.specs.declared.host.HostFault.{HostFault}

-- the bytes written to a child and the bytes read from it since it was started
pub record Talk : Type 0 where
  pub written : List ℕ
  pub heard : List ℕ

-- nothing was said
abbrev pub silence : Talk
silence = record { written = []; heard = [] }

abbrev pub wrote_more : List ℕ → Talk → Talk
wrote_more bytes talk = record { written = talk.written ++ bytes; heard = talk.heard }

abbrev pub heard_more : List ℕ → Talk → Talk
heard_more bytes talk = record { written = talk.written; heard = talk.heard ++ bytes }

-- a call on a child, with its arguments and its answer
pub data Event : Type 0 where
  started : ℕ → List (List ℕ) → Result (Unit {0}) HostFault → Event
  wrote : ℕ → List ℕ → Result ℕ HostFault → Event
  heard : ℕ → ℕ → Result (List ℕ) HostFault → Event
  stopped : ℕ → Result (Unit {0}) HostFault → Event

-- what a read gave
abbrev pub given : {E : Type 0} → Result ℕ E → List ℕ → Result (List ℕ) E
given (Ok n) room = Ok (take n room)
given (Err e) room = Err e

-- what was said with a child, after one more event
abbrev pub said_after : ℕ → Talk → Event → Talk
said_after child talk (started k argv (Ok u)) = if k == child then silence else talk
said_after child talk (started k argv (Err e)) = talk
said_after child talk (wrote k bytes (Ok n)) =
    if k == child then wrote_more (take n bytes) talk else talk
said_after child talk (wrote k bytes (Err e)) = talk
said_after child talk (heard k room (Ok bytes)) = if k == child then heard_more bytes talk else talk
said_after child talk (heard k room (Err e)) = talk
said_after child talk (stopped k answer) = talk

-- what the events spell of a child since its last start that was Ok
abbrev pub spelled : ℕ → Talk → List Event → Talk
spelled child talk [] = talk
spelled child talk (event ∷ events) = spelled child (said_after child talk event) events

-- a log that is told tells what was said
abbrev pub SpellsTalk : Option (List Event) → ℕ → Option Talk → Type 0
SpellsTalk None child talk = ⊤
SpellsTalk (Some events) child talk = talk ≡ Some (spelled child silence events)

-- a log that is told after was told before, and has these events more
abbrev pub LogGrows : Option (List Event) → Option (List Event) → List Event → Type 0
LogGrows = Extends

-- the same with one event
abbrev pub Logs : Option (List Event) → Option (List Event) → Event → Type 0
Logs old new event = LogGrows old new (event ∷ [])

-- the same at each child
abbrev pub Same : {A : Type 0} → (ℕ → A) → (ℕ → A) → Type 0
Same old new = (k : ℕ) → new k ≡ old k

-- the value at this child, and the same at each other
pub record Becomes {A : Type 0} (child : ℕ) (value : A) (old new : ℕ → A) : Type 0 where
  pub here : new child ≡ value
  pub others : (k : ℕ) → k ≢ child → new k ≡ old k

-- a start empties what was said with the child, where that is told
abbrev pub Empties : ℕ → (ℕ → Option Talk) → (ℕ → Option Talk) → Type 0
Empties child old new = Becomes child (option_map (λ (talk : Talk). silence) (old child)) old new

-- these bytes more were written to the child
abbrev pub Writes : ℕ → List ℕ → (ℕ → Option Talk) → (ℕ → Option Talk) → Type 0
Writes child bytes old new = Becomes child (option_map (wrote_more bytes) (old child)) old new

-- these bytes more were read from the child
abbrev pub Hears : ℕ → List ℕ → (ℕ → Option Talk) → (ℕ → Option Talk) → Type 0
Hears child bytes old new = Becomes child (option_map (heard_more bytes) (old child)) old new

-- a write to this child that was taken
abbrev pub IsTaken : ℕ → Event → Type 0
IsTaken child (wrote k bytes (Ok n)) = (k ≡ child) × (0 < n) × (n ≤ length bytes)
IsTaken child (wrote k bytes (Err fault)) = ⊥
IsTaken child (started k argv answer) = ⊥
IsTaken child (heard k room answer) = ⊥
IsTaken child (stopped k answer) = ⊥

-- a read of this child that gave bytes
abbrev pub IsGiven : ℕ → Event → Type 0
IsGiven child (heard k room (Ok bytes)) = k ≡ child
IsGiven child (heard k room (Err fault)) = ⊥
IsGiven child (started k argv answer) = ⊥
IsGiven child (wrote k bytes answer) = ⊥
IsGiven child (stopped k answer) = ⊥

-- writes to a child that were taken, and the bytes that they took in all
pub record Takes (child : ℕ) (bytes : List ℕ) (events : List Event) : Type 0 where
  pub each : All (IsTaken child) events
  pub spells : spelled child silence events ≡ wrote_more bytes silence

-- the log grew by writes to a child that took these bytes
abbrev pub LogsTaken : ℕ → List ℕ → Option (List Event) → Option (List Event) → Type 0
LogsTaken child bytes old new =
    (events : List Event) × Takes child bytes events × LogGrows old new events

-- the log grew by writes to a child that took the first of these bytes, and by one that answered this fault
abbrev pub LogsTakenPart : ℕ → List ℕ → HostFault → Option (List Event) → Option (List Event)
    → Type 0
LogsTakenPart child bytes fault old new =
    (events : List Event) × (n : ℕ) × Takes child (take n bytes) events
    × LogGrows old new (events ++ wrote child (drop n bytes) (Err fault) ∷ [])

-- reads of a child that gave these bytes in all, each at a moment at which no line feed was held yet
pub record Gives (child : ℕ) (held bytes : List ℕ) (events : List Event) : Type 0 where
  pub each : All (IsGiven child) events
  pub spells : spelled child silence events ≡ heard_more bytes silence
  pub early : (k : ℕ) → k < length events
      → IsLine (held ++ (spelled child silence (take k events)).heard)

-- the log grew by reads of a child that gave these bytes
abbrev pub LogsGiven : ℕ → List ℕ → List ℕ → Option (List Event) → Option (List Event) → Type 0
LogsGiven child held bytes old new =
    (events : List Event) × Gives child held bytes events × LogGrows old new events

-- the log grew by reads of a child, none of which gave a line feed, and by one that answered this fault
abbrev pub LogsGivenPart : ℕ → List ℕ → HostFault → Option (List Event) → Option (List Event)
    → Type 0
LogsGivenPart child held fault old new =
    (events : List Event) × (bytes : List ℕ) × (room : ℕ) × Gives child held bytes events × IsLine (held ++ bytes)
    × LogGrows old new (events ++ heard child room (Err fault) ∷ [])

-- Hearing keeps the bytes of a room that were held before, and answers how many are held then: with a line feed among
-- them, or all that there is room for.
pub record FillsRoom {E : Type 0} (held : ℕ) (old new : List ℕ) (result : Result ℕ E) : Type 0 where
  pub count : IfOk result (λ n. (held ≤ n) × (n ≤ length new))
  pub line : IfOk result (λ n. n < length new → HasLine (take n new))
  pub kept : take held new ≡ take held old
