-- What calls on one child of the host below do, from any moment on.
use Rattle.std.specs.Prelude.{◌≡◌, ◌⊎◌, ℕ, ◌+◌, ◌<◌, ◌≤◌, true, false, if◌then◌else◌, List, [], ◌∷◌, ◌++◌, length, take, drop, Result, Ok, Err, IfOk, OnOk, IsErrOf}
use Rattle.std.specs.List.{All, after_first}
use Rattle.std.specs.Io.BufRead.{ends_with_byte}
use Rattle.gen_lines.specs.Lines.{is_feed, unfinished}
use Rattle.io_world.specs.Replies.{HasLine, IsLine}
use Rattle.io_world.specs.Talks.{Event, Gives, heard, wrote_more}
use Rattle.io_world.specs.declared.host.HostFault.{HostFault}
use Rattle.io_world.specs.declared.host.HostFault.TheVariants.{Failed}
use Rattle.restart_host.specs.Fits.{Fits}
use Rattle.restart_host.specs.Lives.{CourseOfCalls, IsNoRead, IsRewritten, IsWritten, Moment, moment_by}
use Rattle.restart_host.specs.Uses.{AreOfLine, AreStarts, Completes, IsRequest}
use Rattle.restart_host.specs.declared.kept.Kept.{Kept}
use Rattle.restart_host.specs.declared.kept.Life.{Life}
use Rattle.gen_lines.specs.declared.line_buf.TheConstants.{LINE_BYTES}

-- Bytes are written to it, the first ones at each moment.
pub record Sent (child : ℕ) (bytes : List ℕ) (result : Result (Unit {0}) HostFault) (m : Moment) (events : List Event)
    : Type 0 where
  pub unread : All IsNoRead events
  pub course : CourseOfCalls child (λ at. (n : ℕ) × (at.talk.written ≡ m.talk.written ++ take n bytes)) m events
  pub done : OnOk result (moment_by child m events ≡ record { talk = wrote_more bytes m.talk; fallen = m.fallen })
  pub fell : IsErrOf result Failed → (moment_by child m events).fallen ≡ true

-- so from any moment on, and by no call where there are none
pub record IsSending (child : ℕ) (bytes : List ℕ) (result : Result (Unit {0}) HostFault) (events : List Event) : Type 0 where
  pub sent : (m : Moment) → Sent child bytes result m events
  pub none : bytes ≡ [] → (result ≡ Ok tt) × (events ≡ [])

-- A child that has fallen is started, and these bytes are written to it.
pub record Revived (child : ℕ) (asked : List ℕ) (result : Result (Unit {0}) HostFault) (m : Moment) (events : List Event)
    : Type 0 where
  pub unread : All IsNoRead events
  pub course : CourseOfCalls child (IsRewritten m.talk.written asked) m events
  pub done : OnOk result (moment_by child m events
      ≡ record { talk = record { written = asked; heard = [] }; fallen = false })
  pub fell : IsErrOf result Failed → (moment_by child m events).fallen ≡ true

-- so from any moment on at which it has fallen, and by starts alone where there are no bytes
pub record IsReviving (child : ℕ) (words : List (List ℕ)) (asked : List ℕ) (result : Result (Unit {0}) HostFault)
    (events : List Event) : Type 0 where
  pub revived : (m : Moment) → m.fallen ≡ true → Revived child asked result m events
  pub starts : asked ≡ [] → AreStarts child words result events

-- Reads of it gave bytes behind those that were held, in all, each while they had no line feed, until they had one or
-- were LINE_BYTES; or one was refused.
pub record IsHearing (child : ℕ) (old new : List ℕ) (result : Result (Unit {0}) HostFault) (events : List Event)
    : Type 0 where
  pub bytes : List ℕ
  pub reads : List Event
  pub refused : List Event
  pub gives : Gives child old bytes reads
  pub cut : events ≡ reads ++ refused
  pub all : OnOk result ((refused ≡ []) × (new ≡ old ++ bytes))
  pub full : OnOk result (IsLine new → length new ≡ LINE_BYTES)
  pub failed : (fault : HostFault) → result ≡ Err fault
      → IsLine (old ++ bytes) × ((room : ℕ) × (refused ≡ heard child room (Err fault) ∷ []))

-- What waits for an answer is fetched, and what is kept agrees with it, unless memory was wanting.
pub record Fetched (child : ℕ) (before asked : List ℕ) (life : Life) (result : Result (Unit {0}) HostFault) (m : Moment)
    (events : List Event) : Type 0 where
  pub course : CourseOfCalls child (IsRewritten m.talk.written asked) m events
  pub done : OnOk result (Fits before asked life (moment_by child m events))
  pub fell : IsErrOf result Failed → Fits before asked life (moment_by child m events)

-- so from any moment on with which what was kept agreed
abbrev pub IsFetching : ℕ → (asked : List ℕ) → (old new : Life) → Result (Unit {0}) HostFault → List Event → Type 0
IsFetching child asked old new result events =
    (m : Moment) (before : List ℕ) → HasLine asked → Fits before asked old m
    → Fetched child before asked new result m events

-- Bytes are brought behind those that wait, and what is kept agrees with it, unless memory was wanting.
pub record Brought {T : Type 0} (child : ℕ) (asked bytes : List ℕ) (life : Life) (result : Result T HostFault) (m : Moment)
    (events : List Event) : Type 0 where
  pub unread : All IsNoRead events
  pub course : CourseOfCalls child (IsWritten m.talk.written asked bytes) m events
  pub whole : OnOk result (((moment_by child m events).talk.written ≡ m.talk.written ++ bytes)
      ⊎ ((moment_by child m events).talk.written ≡ asked ++ bytes))
  pub done : OnOk result (Fits [] (asked ++ bytes) life (moment_by child m events))
  pub fell : IsErrOf result Failed → Fits [] asked life (moment_by child m events)

-- so from any moment on with which what was kept agreed, where no whole request waits
abbrev pub IsBringing : {T : Type 0} → ℕ → (asked bytes : List ℕ) → (old new : Life) → Result T HostFault → List Event
    → Type 0
IsBringing child asked bytes old new result events =
    (m : Moment) → IsLine asked → Fits [] asked old m → Brought child asked bytes new result m events

-- so from a moment on with which what was kept agreed before these bytes were kept too
abbrev pub BringsTo : ℕ → List ℕ → (old new : Kept) → Result (Unit {0}) HostFault → List Event → Type 0
BringsTo child bytes old new result events =
    (asked : List ℕ) → old.asked.items ≡ asked ++ bytes → IsBringing child asked bytes old.life new.life result events

-- So many bytes that were due were handed out; with a line feed the first request has its answer.
pub record HandsOut (count : ℕ) (old new : Kept) (given : List ℕ) : Type 0 where
  pub some : 0 < count
  pub within : count ≤ old.life.due
  pub alive : new.life.alive ≡ old.life.alive
  pub given_are : given ≡ take count old.life.held
  pub held : new.life.held ≡ drop count old.life.held
  pub due : old.life.due ≡ new.life.due + count
  pub asked : new.asked.items ≡ (if ends_with_byte 10 given then after_first is_feed old.asked.items else old.asked.items)

-- Bytes of a line are read, and what is kept agrees with it, unless memory was wanting.
pub record Reads (child : ℕ) (before asked : List ℕ) (kept : Kept) (answer : Result (List ℕ) HostFault) (m : Moment)
    (events : List Event) : Type 0 where
  pub course : CourseOfCalls child (IsRewritten m.talk.written asked) m events
  pub gives : IfOk answer (λ bytes. AreOfLine bytes
      × (length before < LINE_BYTES → IsRequest asked → Completes asked before bytes (moment_by child m events))
      × Fits (unfinished (before ++ bytes)) kept.asked.items kept.life (moment_by child m events)
      × (kept.asked.items ≡ (if ends_with_byte 10 bytes then after_first is_feed asked else asked)))
  pub fell : IsErrOf answer Failed
      → Fits before asked kept.life (moment_by child m events) × (kept.asked.items ≡ asked)

-- so from any moment on with which what was kept agreed
abbrev pub GivesBytes : ℕ → (old new : Kept) → Result (List ℕ) HostFault → List Event → Type 0
GivesBytes child old new answer events =
    (m : Moment) (before : List ℕ) → IsLine before → HasLine old.asked.items → Fits before old.asked.items old.life m
    → Reads child before old.asked.items new answer m events
