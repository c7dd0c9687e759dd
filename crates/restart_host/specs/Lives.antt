-- The lives of a child that is started again where it fails, as the log of its host tells them.
use Rattle.std.specs.Prelude.{◌≡◌, ◌⊎◌, ℕ, ◌<◌, ◌≤◌, ◌==◌, ◌&&◌, Bool, true, false, if◌then◌else◌, List, [], ◌∷◌, ◌++◌, length, take, slice_get, Some, IfSome}
use Rattle.std.specs.List.{All, slice_split}
use Rattle.gen_lines.specs.Lines.{ended, is_feed, lines_of, unfinished}
use Rattle.io_world.specs.Talks.{Event, Talk, started, wrote, heard, stopped, said_after, silence}
use Rattle.restart_host.specs.Tries.{IsOn, is_failed}
use Rattle.gen_lines.specs.declared.line_buf.TheConstants.{LINE_BYTES, LINE_LENGTH}

-- whether a child has fallen, after one more call
abbrev pub fallen_after : ℕ → Bool → Event → Bool
fallen_after child fallen (started k words answer) = if k == child then is_failed answer else fallen
fallen_after child fallen (wrote k bytes answer) = if (k == child) && is_failed answer then true else fallen
fallen_after child fallen (heard k room answer) = if (k == child) && is_failed answer then true else fallen
fallen_after child fallen (stopped k answer) = fallen

-- Where a child stands: what was said with it since its last start that was done, and whether it has fallen, which is
-- so once its last start, or a write or a read of it since, failed.
pub record Moment : Type 0 where
  pub talk : Talk
  pub fallen : Bool

abbrev pub moment_after : ℕ → Moment → Event → Moment
moment_after child m event =
    record { talk = said_after child m.talk event; fallen = fallen_after child m.fallen event }

-- where it stands after these calls, from a moment on
abbrev pub moment_by : ℕ → Moment → List Event → Moment
moment_by child m [] = m
moment_by child m (event ∷ events) = moment_by child (moment_after child m event) events

-- where it stands once these calls are done, which are all
abbrev pub moment_of : ℕ → List Event → Moment
moment_of child events = moment_by child (record { talk = silence; fallen = false }) events

-- the whole lines that were written to it and read from it since its last start that was done
abbrev pub lines_to : Moment → List (List ℕ)
lines_to m = lines_of m.talk.written

abbrev pub lines_from : Moment → List (List ℕ)
lines_from m = lines_of m.talk.heard

-- not a read
abbrev pub IsNoRead : Event → Type 0
IsNoRead (heard k room answer) = ⊥
IsNoRead event = Unit {0}

-- whether a call may be tried at a moment: a start only where the child has fallen, and a read only while fewer lines
-- were read from it since its start than were written to it
abbrev pub MayTry : Moment → Event → Type 0
MayTry m (started k words answer) = m.fallen ≡ true
MayTry m (heard k room answer) = length (lines_from m) < length (lines_to m)
MayTry m (wrote k bytes answer) = Unit {0}
MayTry m (stopped k answer) = Unit {0}

-- Calls from a moment on, each of which may be tried at its own, while this holds of the child at each moment, from the
-- first to the last.
abbrev pub CourseOfCalls : ℕ → (Moment → Type 0) → Moment → List Event → Type 0
CourseOfCalls child Holds m [] = Holds m
CourseOfCalls child Holds m (event ∷ events) =
    Holds m × MayTry m event × CourseOfCalls child Holds (moment_after child m event) events

-- Since its start the child was written what it had been before, and then the first of these bytes; or the first of
-- what waits for an answer and of these bytes.
abbrev pub IsWritten : (was waiting bytes : List ℕ) → Moment → Type 0
IsWritten was waiting bytes m =
    (n : ℕ) × ((m.talk.written ≡ was ++ take n bytes) ⊎ (m.talk.written ≡ take n (waiting ++ bytes)))

-- Tries to bring bytes to a child from a moment on, behind those that wait for an answer: they are on it alone, nothing
-- is read, and at each moment the first of them are written, last of what was written to it since its start.
pub record AreBringing (child : ℕ) (words : List (List ℕ)) (waiting bytes : List ℕ) (m : Moment) (tries : List Event)
    : Type 0 where
  pub on : All (IsOn child words) tries
  pub unread : All IsNoRead tries
  pub course : CourseOfCalls child (IsWritten m.talk.written waiting bytes) m tries

-- Bytes are brought: in the end they are written whole.
pub record Brings (child : ℕ) (words : List (List ℕ)) (waiting bytes : List ℕ) (m : Moment) (tries : List Event)
    : Type 0 where
  pub bringing : AreBringing child words waiting bytes m tries
  pub whole : ((moment_by child m tries).talk.written ≡ m.talk.written ++ bytes)
      ⊎ ((moment_by child m tries).talk.written ≡ waiting ++ bytes)

-- nothing but this text was written anew
abbrev pub IsRewritten : (was text : List ℕ) → Moment → Type 0
IsRewritten was text m = (m.talk.written ≡ was) ⊎ ((n : ℕ) × (m.talk.written ≡ take n text))

-- Tries to fetch what is said to a request of this text: they are on the child alone, and nothing but its text is
-- written anew.
pub record AreFetching (child : ℕ) (words : List (List ℕ)) (text : List ℕ) (m : Moment) (tries : List Event)
    : Type 0 where
  pub on : All (IsOn child words) tries
  pub course : CourseOfCalls child (IsRewritten m.talk.written text) m tries

-- The line of this text stands at a place of those that were written to the child since its start.
pub record IsAskedAt (text : List ℕ) (place : ℕ) (m : Moment) : Type 0 where
  pub request : List ℕ
  pub spelt : request ++ 10 ∷ [] ≡ text
  pub at : slice_get (lines_to m) place ≡ Some request

-- The line stands at a place of those that were read from it since its start, with no more bytes as it came than a line
-- may have.
pub record IsSaidAt (line : List ℕ) (place : ℕ) (m : Moment) : Type 0 where
  pub at : slice_get (lines_from m) place ≡ Some line
  pub short : IfSome (slice_get (ended (slice_split is_feed m.talk.heard)) place) (λ raw. length raw ≤ LINE_LENGTH)

-- A line stands among those that were read from the child since its start at the place at which the line of this text
-- stands among those that were written to it.
pub record IsFetched (text line : List ℕ) (m : Moment) : Type 0 where
  pub place : ℕ
  pub asked : IsAskedAt text place m
  pub said : IsSaidAt line place m

-- No line does: LINE_BYTES bytes without a line feed follow as many lines as stand before it.
pub record IsTooLong (text : List ℕ) (m : Moment) : Type 0 where
  pub asked : IsAskedAt text (length (lines_from m)) m
  pub long : length (unfinished m.talk.heard) ≡ LINE_BYTES

-- A line is fetched: in the end it stands at the place of the request.
pub record Fetches (child : ℕ) (words : List (List ℕ)) (text line : List ℕ) (m : Moment) (tries : List Event)
    : Type 0 where
  pub fetching : AreFetching child words text m tries
  pub fetched : IsFetched text line (moment_by child m tries)
