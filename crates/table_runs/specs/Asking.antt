-- Children that answer by a table, by what was said with them.
use Rattle.std.specs.Prelude.{◌≡◌, ℕ, ◌<◌, List, [], ◌∷◌, ◌&&◌, Option, None, Some, codes, slice_get, take, if◌then◌else◌}
use Rattle.std.specs.Char.{is_ascii_digit}
use Rattle.std.specs.List.{list_all}
use Rattle.std.specs.Str.{bytes_eq}
use Rattle.std.specs.Str.Parse.{digits_value}
use Rattle.gen_lines.specs.Lines.{lines_of}
use Rattle.gen_lines.specs.Reply.{fields, is_filled, reply_of}
use Rattle.io_world.specs.Talks.{Talk}
use Rattle.pools.specs.Pools.{Workers, child_for}
use Rattle.round_run.specs.Calls.{answers_by}
use Rattle.round_run.specs.Dialogue.{IsOneOf, Request, called_stream, count_to, last_round, requests_of}
use Rattle.session_core.specs.Slots.{wanted_at}
use Rattle.task_model.specs.declared.task.Task.{Task}
use Rattle.transcript_model.specs.Tables.{Answers}
use Rattle.transcript_model.specs.declared.entry.Call.{Call}
use Rattle.transcript_model.specs.declared.entry.Entry.{Entry}
use Rattle.transcript_model.specs.declared.entry.Entry.TheVariants as entry

-- ---- what a line asks

-- a call, where so many tuples were given before
pub record Asking : Type 0 where
  pub turn : ℕ
  pub call : Call

-- what a request asks
abbrev pub asking_by : Request → Asking
asking_by r = record { turn = r.turn; call = r.call }

-- What these fields ask: they are `next`, a number, a stream and its inputs. Others ask nothing.
abbrev pub asking_of : List (List ℕ) → Option Asking
asking_of [] = None
asking_of (next ∷ []) = None
asking_of (next ∷ turn ∷ []) = None
asking_of (next ∷ turn ∷ name ∷ args) =
    if bytes_eq next (codes "next") && (is_filled turn && list_all is_ascii_digit turn)
    then Some (record { turn = digits_value 10 turn; call = record { name = name; args = args } })
    else None

-- what a line asks
abbrev pub asked_by : List ℕ → Option Asking
asked_by line = asking_of (fields line)

-- ---- what children answer

-- The line that was heard at a place says what is answered to the request on the line that was written at this place,
-- where there are both.
abbrev pub SpeaksBy : ℕ → Task → Answers → Talk → Type 0
SpeaksBy version task answers talk =
    (place : ℕ) (written heard : List ℕ) (q : Asking) → slice_get (lines_of talk.written) place ≡ Some written
    → asked_by written ≡ Some q → slice_get (lines_of talk.heard) place ≡ Some heard
    → reply_of heard (wanted_at task version (called_stream task q.call)) ≡ answers q.call q.turn

-- Each child to which a request of the transcript goes tells what was said with it, and speaks so.
abbrev pub AnsweredBy : ℕ → Task → List Workers → Answers → List Entry → (ℕ → Option Talk) → Type 0
AnsweredBy version task pools answers entries spoken =
    (child : ℕ) → 0 < count_to child (requests_of task pools entries)
    → (talk : Talk) × (spoken child ≡ Some talk) × SpeaksBy version task answers talk

-- each child to which a request of the transcript goes tells what was said with it
abbrev pub AskedTell : Task → List Workers → List Entry → (ℕ → Option Talk) → Type 0
AskedTell task pools entries spoken =
    (child : ℕ) → 0 < count_to child (requests_of task pools entries) → (talk : Talk) × (spoken child ≡ Some talk)

-- each request of the transcript goes to a child of the pools
abbrev pub GoToPools : Task → List Workers → List Entry → Type 0
GoToPools task pools entries =
    (k : ℕ) (r : Request) → slice_get (requests_of task pools entries) k ≡ Some r → IsOneOf pools r.child

-- each request stands behind the answers to all earlier ones that went to its child
abbrev pub AreAskedInTurn : Task → List Workers → List Entry → Type 0
AreAskedInTurn task pools entries =
    (k number turn : ℕ) (call : Call) → slice_get entries k ≡ Some (entry.Ask number turn call)
    → (let child : ℕ = child_for pools (last_round task [] (take k entries)) (called_stream task call) in
    count_to child (requests_of task pools (take k entries)) ≡ answers_by task pools (take k entries) child)
