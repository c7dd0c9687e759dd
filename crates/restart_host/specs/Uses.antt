-- How the calls on a host that starts its children again are done by calls on the host below.
use Rattle.std.specs.Prelude.{◌≡◌, ◌⊎◌, ℕ, ◌<◌, ◌==◌, Bool, if◌then◌else◌, List, [], ◌∷◌, ◌++◌, length, take, replicate, Option, Some, None, Result, Ok, Err, IfOk}
use Rattle.std.specs.List.{All, after_first, list_any}
use Rattle.std.specs.Io.BufRead.{ends_with_byte}
use Rattle.gen_lines.specs.Lines.{is_feed, lines_of, unfinished}
use Rattle.io_world.specs.Replies.{IsLine, HasLine}
use Rattle.io_world.specs.Talks.{Event, started, wrote, heard, stopped, silence, spelled}
use Rattle.io_world.specs.declared.host.HostFault.{HostFault}
use Rattle.io_world.specs.declared.host.HostFault.TheVariants.{Failed, Memory}
use Rattle.restart_host.specs.Lives.{AreBringing, AreFetching, Brings, IsFetched, IsTooLong, Moment, moment_by, moment_of}
use Rattle.restart_host.specs.Tries.{IsOn}
use Rattle.gen_lines.specs.declared.line_buf.TheConstants.{LINE_BYTES}

-- ---- how a child is used

-- the child of a call
abbrev pub child_in : Event → ℕ
child_in (started k words answer) = k
child_in (wrote k bytes answer) = k
child_in (heard k room answer) = k
child_in (stopped k answer) = k

-- the words of its last start that was done
abbrev pub words_after : ℕ → List (List ℕ) → Event → List (List ℕ)
words_after child words (started k argv (Ok u)) = if k == child then argv else words
words_after child words event = words

abbrev pub words_by : ℕ → List (List ℕ) → List Event → List (List ℕ)
words_by child words [] = words
words_by child words (event ∷ events) = words_by child (words_after child words event) events

abbrev pub words_of : ℕ → List Event → List (List ℕ)
words_of child events = words_by child [] events

-- whether a line feed is among these bytes
abbrev pub has_line : List ℕ → Bool
has_line bytes = list_any is_feed bytes

-- What waits for an answer after one more call on the child. Bytes may be written where no whole request waits, and
-- are behind those that wait then. Bytes may be read where one does: with their line feed it has its answer.
abbrev pub asked_after : List ℕ → Event → Option (List ℕ)
asked_after asked (started k words (Ok u)) = Some []
asked_after asked (started k words (Err fault)) = Some asked
asked_after asked (wrote k bytes (Ok n)) = if has_line asked then None else Some (asked ++ take n bytes)
asked_after asked (wrote k bytes (Err Failed)) = if has_line asked then None else Some asked
asked_after asked (wrote k bytes (Err Memory)) = None
asked_after asked (heard k room (Ok bytes)) =
    if has_line asked then Some (if ends_with_byte 10 bytes then after_first is_feed asked else asked) else None
asked_after asked (heard k room (Err Failed)) = if has_line asked then Some asked else None
asked_after asked (heard k room (Err Memory)) = None
asked_after asked (stopped k answer) = Some asked

-- the same where it was used otherwise before, until it is started
abbrev pub waiting_then : Option (List ℕ) → Event → Option (List ℕ)
waiting_then None (started k words (Ok u)) = Some []
waiting_then None event = None
waiting_then (Some asked) event = asked_after asked event

abbrev pub waiting_by : ℕ → Option (List ℕ) → List Event → Option (List ℕ)
waiting_by child waiting [] = waiting
waiting_by child waiting (event ∷ events) =
    waiting_by child (if child_in event == child then waiting_then waiting event else waiting) events

-- The bytes that were written to the child since its start and have no answer yet, as long as it is used for one request
-- at a time: it is written to where no whole request waits, and read where one does; and none of these calls wanted
-- memory. None where it was used otherwise.
abbrev pub waiting : ℕ → List Event → Option (List ℕ)
waiting child events = waiting_by child (Some []) events

-- the bytes that were read from it behind its last line
abbrev pub part_of : ℕ → List Event → List ℕ
part_of child events = unfinished (spelled child silence events).heard

-- ---- how a call is done

-- one line, which a carriage return doesn't end, and its line feed
abbrev pub IsRequest : List ℕ → Type 0
IsRequest text = (request : List ℕ) × (request ++ 10 ∷ [] ≡ text) × (lines_of text ≡ request ∷ [])

-- starts that failed, and at last one that answers so
abbrev pub AreStarts : ℕ → List (List ℕ) → Result (Unit {0}) HostFault → List Event → Type 0
AreStarts child words answer events =
    (n : ℕ) × (events ≡ replicate n (started child words (Err Failed)) ++ started child words answer ∷ [])

-- at most one stop
abbrev pub IsEnding : ℕ → List Event → Type 0
IsEnding child events = (events ≡ []) ⊎ ((answer : Result (Unit {0}) HostFault) × (events ≡ stopped child answer ∷ []))

-- Bytes are written behind those that wait: tries to bring them, and with Ok they are brought.
abbrev pub IsWriting : {T : Type 0} → ℕ → List (List ℕ) → (asked bytes : List ℕ) → Result T HostFault → Moment
    → List Event → Type 0
IsWriting child words asked bytes (Ok n) m events = Brings child words asked bytes m events
IsWriting child words asked bytes (Err fault) m events = AreBringing child words asked bytes m events

-- What is read completes a line, which is fetched; or it makes LINE_BYTES bytes without a line feed, and so it is
-- below.
pub record Completes (text before bytes : List ℕ) (m : Moment) : Type 0 where
  pub line : (line : List ℕ) → lines_of (before ++ bytes) ≡ line ∷ [] → IsFetched text line m
  pub long : lines_of (before ++ bytes) ≡ [] → length (before ++ bytes) ≡ LINE_BYTES → IsTooLong text m

-- bytes of one line: there is no line feed among them but the last byte
abbrev pub AreOfLine : List ℕ → Type 0
AreOfLine bytes = IsLine bytes ⊎ ((line : List ℕ) × IsLine line × (bytes ≡ line ++ 10 ∷ []))

-- Bytes of one line are read behind those that were read of it before: tries to fetch it.
pub record IsReading (child : ℕ) (words : List (List ℕ)) (text before : List ℕ) (answer : Result (List ℕ) HostFault)
    (m : Moment) (events : List Event) : Type 0 where
  pub fetching : AreFetching child words text m events
  pub one : IfOk answer AreOfLine
  pub gives : IfOk answer (λ bytes. length before < LINE_BYTES → IsRequest text
      → Completes text before bytes (moment_by child m events))

-- A call, behind these calls on the host and those on the host below, is done by these. A start is done by starts; a
-- stop is Ok, and done by one stop at most. A write has bytes, takes all of them, and brings them where no whole request
-- waits; a read gives some, and fetches the answer to the one that waits. In other use these are calls on the child, with
-- its words.
abbrev pub IsDone : (calls past : List Event) → Event → List Event → Type 0
IsDone calls past (started child words answer) events = AreStarts child words answer events
IsDone calls past (wrote child bytes answer) events =
    (0 < length bytes) × IfOk answer (λ n. n ≡ length bytes) × All (IsOn child (words_of child calls)) events
    × ((asked : List ℕ) → waiting child calls ≡ Some asked → IsLine asked
    → IsWriting child (words_of child calls) asked bytes answer (moment_of child past) events)
IsDone calls past (heard child room answer) events =
    IfOk answer (λ bytes. 0 < length bytes) × All (IsOn child (words_of child calls)) events
    × ((asked : List ℕ) → waiting child calls ≡ Some asked → HasLine asked
    → IsReading child (words_of child calls) asked (part_of child calls) answer (moment_of child past) events)
IsDone calls past (stopped child answer) events = (answer ≡ Ok tt) × IsEnding child events

-- Calls are done one after another: those below are cut, in order, into those of each.
abbrev pub AreDone : (calls past : List Event) → (more events : List Event) → Type 0
AreDone calls past [] events = events ≡ []
AreDone calls past (call ∷ more) events =
    (now : List Event) × (later : List Event) × (events ≡ now ++ later) × IsDone calls past call now
    × AreDone (calls ++ call ∷ []) (past ++ now) more later
