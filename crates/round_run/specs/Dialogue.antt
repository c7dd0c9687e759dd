-- What is said with children: who is asked what, and which line each answer is.
use Rattle.gen_lines.specs.Request.{request_line}
use Rattle.std.specs.Prelude.{◌≡◌, ℕ, ◌<◌, ◌≤◌, ◌==◌, ◌⊎◌, List, [], ◌∷◌, ◌++◌, length, take, drop, filter, map, count_by, Bool, Option, Some, slice_get, unwrap_or, if◌then◌else◌, IfSome}
use Rattle.std.specs.List.{flat_map, join_with_byte, slice_split}
use Rattle.gen_lines.specs.Lines.{ended, is_feed, lines_of, unfinished}
use Rattle.gen_lines.specs.Reply.{bad, reply_of}
use Rattle.gen_lines.specs.declared.answer.Wanted.{Wanted}
use Rattle.gen_lines.specs.declared.answer.Why.{Why}
use Rattle.gen_lines.specs.declared.answer.Why.TheVariants.{TooLong}
use Rattle.io_world.specs.Talks.{Talk}
use Rattle.pools.specs.Pools.{HasChild, Workers, child_for, workers_of}
use Rattle.session_core.specs.Slots.{replied_entry, wanted_at}
use Rattle.task_model.specs.declared.task.Task.{Task}
use Rattle.transcript_model.specs.Legal.{IsLegal, is_answer}
use Rattle.transcript_model.specs.Names.{stream_named}
use Rattle.transcript_model.specs.declared.entry.Call.{Call}
use Rattle.transcript_model.specs.declared.entry.Entry.{Entry}
use Rattle.transcript_model.specs.declared.entry.Entry.TheVariants as entry
use Rattle.transcript_model.specs.declared.head.Head.{Head}
use Rattle.round_run.specs.Stops.{MayHear}
use Rattle.round_run.specs.declared.fault.RunFault.{RunFault}
use Rattle.gen_lines.specs.declared.line_buf.TheConstants.{LINE_BYTES, LINE_LENGTH}

-- ---- who is asked what

-- a request: its child, and what the transcript says of it
pub record Request : Type 0 where
  pub child : ℕ
  pub number : ℕ
  pub turn : ℕ
  pub call : Call

-- its bytes: `next`, its turn, its stream and its inputs with a space between each two, and a line feed
abbrev pub text_of_request : Request → List ℕ
text_of_request r = join_with_byte 32 (request_line r.turn r.call.name r.call.args) ++ 10 ∷ []

-- the place of the call's stream
abbrev pub called_stream : Task → Call → ℕ
called_stream task call = unwrap_or (stream_named task call.name) 0

-- The requests of a transcript, with their children. The requests of a round stand one after another, with nothing
-- between them: the first of them that a pool serves goes to its first child, the next to its second. Requests of these
-- streams were made before in the same round.
module _ (task : Task) (pools : List Workers) where
  abbrev pub requests_after : List ℕ → List Entry → List Request
  requests_after round [] = []
  requests_after round (entry.Ask number turn call ∷ entries) =
      record { child = child_for pools round (called_stream task call); number = number; turn = turn; call = call }
      ∷ requests_after (round ++ called_stream task call ∷ []) entries
  requests_after round (e ∷ entries) = requests_after [] entries

  abbrev pub requests_of : List Entry → List Request
  requests_of entries = requests_after [] entries

-- the streams of the requests that stand at the end of a transcript, with nothing behind them
abbrev pub last_round : Task → List ℕ → List Entry → List ℕ
last_round task round [] = round
last_round task round (entry.Ask number turn call ∷ entries) =
    last_round task (round ++ called_stream task call ∷ []) entries
last_round task round (e ∷ entries) = last_round task [] entries

abbrev pub is_to : ℕ → Request → Bool
is_to child r = r.child == child

-- the bytes of those that go to the child
abbrev pub bytes_to : ℕ → List Request → List ℕ
bytes_to child requests =
    flat_map (λ (r : Request). if is_to child r then text_of_request r else []) requests

-- how many go to it
abbrev pub count_to : ℕ → List Request → ℕ
count_to child requests = count_by (is_to child) requests

-- the workers of a head's pools
abbrev pub workers_in : Head → List Workers
workers_in head = map workers_of head.pools

-- a pool has this child
pub record IsOneOf (pools : List Workers) (child : ℕ) : Type 0 where
  pub place : ℕ
  pub pool : Workers
  pub at : slice_get pools place ≡ Some pool
  pub has : HasChild pool child

-- ---- which line each answer is

-- the answers, in the order in which they stand
abbrev pub replies_of : List Entry → List Entry
replies_of entries = filter is_answer entries

-- what the request may be answered
abbrev pub wanted_by : Task → ℕ → Request → Wanted
wanted_by task version r = wanted_at task version (called_stream task r.call)

-- The answer that stands at the same place among the answers as a request to the child among the requests is what a
-- line says: the one that stands at the same place among the child's lines as the request among those to the child.
abbrev pub AreSaid : Task → ℕ → List Request → List Entry → ℕ → List (List ℕ) → Type 0
AreSaid task version requests replies child lines =
    (k : ℕ) (r : Request) (e : Entry) → slice_get requests k ≡ Some r → r.child ≡ child → slice_get replies k ≡ Some e
    → (line : List ℕ) × (slice_get lines (count_to child (take k requests)) ≡ Some line)
    × (replied_entry r.number (reply_of line (wanted_by task version r)) ≡ Some e)

-- the lines of these bytes as they came, with the carriage returns that are dropped
abbrev pub raw_lines : List ℕ → List (List ℕ)
raw_lines heard = ended (slice_split is_feed heard)

-- the line at this place has no more bytes as it came than a line may have
abbrev pub IsShortAt : List ℕ → ℕ → Type 0
IsShortAt heard place = IfSome (slice_get (raw_lines heard) place) (λ line. length line ≤ LINE_LENGTH)

-- so have the first lines, so many
abbrev pub AreShort : List ℕ → ℕ → Type 0
AreShort heard many = (place : ℕ) → place < many → IsShortAt heard place

-- What was said with the child: the bytes of its requests were written to it, and then these; and its lines say its
-- answers, each in at most 1,024 bytes.
pub record IsSaid (task : Task) (version : ℕ) (requests : List Request) (replies : List Entry)
    (further : List ℕ) (child : ℕ) (talk : Talk) : Type 0 where
  pub written : talk.written ≡ bytes_to child requests ++ further
  pub answered : AreSaid task version requests replies child (lines_of talk.heard)
  pub short : AreShort talk.heard (count_to child (take (length replies) requests))

-- The dialogue of a transcript: where something was asked, each child of a pool that tells what was said with it was
-- written exactly its requests, and its lines say its answers.
abbrev pub Dialogue : Task → ℕ → List Workers → List Entry → (ℕ → Option Talk) → Type 0
Dialogue task version pools entries spoken =
    (child : ℕ) → IsOneOf pools child → 0 < length (requests_of task pools entries)
    → IfSome (spoken child) (IsSaid task version (requests_of task pools entries) (replies_of entries) [] child)

-- ---- dialogues that are broken off

-- the requests that come with further entries
abbrev pub further_requests : Task → List Workers → List Entry → List Entry → List Request
further_requests task pools entries next =
    drop (length (requests_of task pools entries)) (requests_of task pools (entries ++ next))

-- At most one request more was written, in whole or in part: the next, with which the transcript is such a front; and
-- none where an answer is bad or the sink failed. Lines may have been read whose answers don't stand in the transcript.
pub record BrokenOff (task : Task) (version : ℕ) (pools : List Workers) (Front : List Entry → Type 0)
    (fault : RunFault) (entries : List Entry) (spoken : ℕ → Option Talk) : Type 0 where
  pub next : List Entry
  pub few : length next ≤ 1
  pub only : (next ≡ []) ⊎ MayHear fault
  pub legal : IsLegal version task (entries ++ next)
  pub front : Front (entries ++ next)
  pub count : ℕ
  pub said : (child : ℕ) → IsOneOf pools child
      → 0 < length (requests_of task pools (entries ++ next))
      → IfSome (spoken child) (IsSaid task version (requests_of task pools entries)
      (replies_of entries) (take count (bytes_to child (further_requests task pools entries next))) child)

-- ---- lines that are no answer

-- At this place of the bytes' lines stands one that is none, for this cause, and came with no more bytes than a line
-- may have; or LINE_BYTES bytes without a line feed follow the lines before it.
abbrev pub IsBadLine : List ℕ → ℕ → Wanted → Why → Type 0
IsBadLine heard place wanted why =
    ((line : List ℕ) × (slice_get (lines_of heard) place ≡ Some line) × (reply_of line wanted ≡ bad why)
    × IsShortAt heard place)
    ⊎ ((why ≡ TooLong) × (length (lines_of heard) ≡ place) × (length (unfinished heard) ≡ LINE_BYTES))

-- Each request before the one of this number is answered, and the line that its child says next is no answer, for this
-- cause.
pub record HasBadLine (task : Task) (version : ℕ) (pools : List Workers)
    (entries : List Entry) (spoken : ℕ → Option Talk) (number : ℕ) (why : Why) : Type 0 where
  pub request : Request
  pub numbered : request.number ≡ number
  pub next : slice_get (requests_of task pools entries) (length (replies_of entries)) ≡ Some request
  pub heard : IfSome (spoken request.child)
      (λ (talk : Talk). IsBadLine talk.heard
      (count_to request.child (take (length (replies_of entries)) (requests_of task pools entries)))
      (wanted_by task version request) why)
