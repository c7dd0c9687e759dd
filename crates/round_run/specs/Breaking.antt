-- The calls of a run that stops before it has an outcome: what came behind the calls of its entries.
use Rattle.std.specs.Prelude.{◌≡◌, ◌⊎◌, ℕ, zero, suc, ◌<◌, ◌≤◌, List, [], ◌∷◌, ◌++◌, length, take, drop, Option, None, Some, Ok, Err, ⊤, slice_get}
use Rattle.std.specs.List.{All}
use Rattle.gen_lines.specs.Lines.{lines_of}
use Rattle.io_world.specs.Faults.{Extends}
use Rattle.io_world.specs.Talks.{Event, started, wrote, heard, stopped, silence, spelled, IsGiven, Takes}
use Rattle.io_world.specs.declared.host.HostFault.{HostFault}
use Rattle.io_world.specs.declared.host.HostFault.TheVariants as host
use Rattle.pools.specs.Pools.{Workers}
use Rattle.task_model.specs.declared.task.Task.{Task}
use Rattle.transcript_model.specs.Legal.{HasNoneOpen, IsLegal, asks_of}
use Rattle.transcript_model.specs.declared.entry.Entry.{Entry}
use Rattle.transcript_model.specs.declared.head.Head.{Head}
use Rattle.transcript_model.specs.declared.head.Pool.{Pool}
use Rattle.round_run.specs.Calls.{Follows, IsStop, Reads, answers_by, lines_read, starts_of}
use Rattle.round_run.specs.Dialogue.{Request, replies_of, requests_of, text_of_request, workers_in}
use Rattle.round_run.specs.Stops.{MayListen, MayHear}
use Rattle.round_run.specs.declared.fault.RunFault.{RunFault}
use Rattle.round_run.specs.declared.fault.RunFault.TheVariants.{Answer, Generator, Write, Memory}

-- what a call was refused with
abbrev pub refusal : Event → Option HostFault
refusal (started child words (Err fault)) = Some fault
refusal (wrote child bytes (Err fault)) = Some fault
refusal (heard child room (Err fault)) = Some fault
refusal (stopped child (Err fault)) = Some fault
refusal e = None

-- The call that was refused, if one was: a fault of a generator has one that failed; want of memory has one that was
-- refused for it, or else the run holds `free`.
abbrev pub Tells : (free : Type 0) → RunFault → List Event → Type 0
Tells free Generator refused = (e : Event) × (refused ≡ e ∷ []) × (refusal e ≡ Some host.Failed)
Tells free Memory refused =
    ((refused ≡ []) × free) ⊎ ((e : Event) × (refused ≡ e ∷ []) × (refusal e ≡ Some host.Memory))
Tells free Write refused = refused ≡ []
Tells free (Answer number why) refused = refused ≡ []

-- Writes of the next request, with which the transcript is such a front: they took the first bytes of its text, or all;
-- if one was refused, it was of the others.
pub record Writing (task : Task) (version : ℕ) (pools : List Workers) (before : List Entry)
    (calls refused : List Event) (Front : List Entry → Type 0) : Type 0 where
  pub entry : Entry
  pub legal : IsLegal version task (before ++ entry ∷ [])
  pub front : Front (before ++ entry ∷ [])
  pub request : Request
  pub next : requests_of task pools (before ++ entry ∷ []) ≡ requests_of task pools before ++ request ∷ []
  pub count : ℕ
  pub taken : Takes request.child (take count (text_of_request request)) calls
  pub last : (refused ≡ [])
      ⊎ ((cause : HostFault) × (refused ≡ wrote request.child (drop count (text_of_request request)) (Err cause) ∷ []))

-- Reads for the next answer, each of them, and the one that was refused if one was, only while all lines of the child
-- were taken.
pub record Listening (task : Task) (pools : List Workers) (past : List Event)
    (before : List Entry) (calls refused : List Event) : Type 0 where
  pub request : Request
  pub next : slice_get (requests_of task pools before) (length (replies_of before)) ≡ Some request
  pub reads : Reads request.child (answers_by task pools before request.child) past calls
  pub last : (refused ≡ [])
      ⊎ ((cause : HostFault) × (room : ℕ) × (refused ≡ heard request.child room (Err cause) ∷ [])
      × (lines_read request.child (past ++ calls) ≤ answers_by task pools before request.child))

-- The calls, behind those of the entries, of one entry that doesn't stand in the transcript: none, where the sink
-- failed; and reads alone, where an answer is bad.
abbrev pub IsBegun : Task → ℕ → List Workers → List Event → List Entry → RunFault → List Event → List Event
    → (List Entry → Type 0) → Type 0
IsBegun task version pools past before fault calls refused Front =
    ((calls ≡ []) × (refused ≡ []))
    ⊎ (MayHear fault × Writing task version pools before calls refused Front)
    ⊎ (MayListen fault × Listening task pools past before calls refused)

-- The events are the calls of these entries; then calls of one entry more, in part or whole; and then at most one that
-- was refused, as the fault tells. Where memory is wanting and no call was refused for it, no request is open.
pub record Breaks (task : Task) (version : ℕ) (pools : List Workers) (past : List Event)
    (before more : List Entry) (fault : RunFault) (events : List Event) (Front : List Entry → Type 0) : Type 0 where
  pub done : List Event
  pub calls : List Event
  pub refused : List Event
  pub cut : events ≡ done ++ calls ++ refused
  pub follows : Follows task pools past before more done
  pub begun : IsBegun task version pools (past ++ done) (before ++ more) fault calls refused Front
  pub told : Tells (HasNoneOpen (before ++ more)) fault refused

-- the same of the calls that came to a log that is told
abbrev pub LogBreaks : Task → ℕ → List Workers → List Entry → RunFault → Option (List Event)
    → Option (List Event) → (List Entry → Type 0)
    → List Entry → Type 0
LogBreaks task version pools before fault old None Front more = ⊤
LogBreaks task version pools before fault old (Some after) Front more =
    (past : List Event) × (events : List Event) × (old ≡ Some past) × (after ≡ past ++ events)
    × Breaks task version pools past before more fault events Front

-- ---- with the starts

-- the starts that stand before the next request, where so many were made before
abbrev pub starts_after : List Pool → ℕ → List Event
starts_after pools zero = starts_of pools
starts_after pools (suc asked) = []

-- no call was made, or the first workers were started, and the next start was refused
abbrev pub WereStarts : Head → List Entry → RunFault → List Event → Type 0
WereStarts head entries fault events =
    ((events ≡ []) × Tells (HasNoneOpen entries) fault [])
    ⊎ ((n : ℕ) × (child : ℕ) × (words : List (List ℕ)) × (cause : HostFault)
    × (slice_get (starts_of head.pools) n ≡ Some (started child words (Ok tt)))
    × (events ≡ take n (starts_of head.pools) ++ started child words (Err cause) ∷ [])
    × Tells (HasNoneOpen entries) fault (started child words (Err cause) ∷ []))

-- Before the first request.
pub record Unstarted (head : Head) (before more : List Entry) (fault : RunFault) (events : List Event) : Type 0 where
  pub first : asks_of before ≡ 0
  pub none : asks_of more ≡ 0
  pub were : WereStarts head (before ++ more) fault events

-- All workers were started, if none ran before, and then came the calls of the entries, up to where the run broke off.
-- Where the sink failed they were started only for a request that stands.
pub record Underway (task : Task) (head : Head) (past : List Event) (before more : List Entry) (fault : RunFault)
    (events : List Event) (Front : List Entry → Type 0) : Type 0 where
  pub later : List Event
  pub cut : events ≡ starts_after head.pools (asks_of before) ++ later
  pub needed : fault ≡ Write → 0 < asks_of (before ++ more)
  pub breaks : Breaks task head.version (workers_in head)
      (past ++ starts_after head.pools (asks_of before)) before more fault later Front

-- The calls that came to the log, where it is told, are the starts of all workers, if none ran before, and then those
-- of the entries, up to where the run broke off; or it broke off before the first request was written.
abbrev pub RunBreaks : Task → Head → List Entry → RunFault → Option (List Event)
    → Option (List Event) → (List Entry → Type 0) → List Entry
    → Type 0
RunBreaks task head before fault old None Front more = ⊤
RunBreaks task head before fault old (Some after) Front more =
    (past : List Event) × (events : List Event) × (old ≡ Some past) × (after ≡ past ++ events)
    × (Unstarted head before more fault events ⊎ Underway task head past before more fault events Front)

-- The same of a whole run, and then stops.
abbrev pub LogBroken : Task → Head → (List Entry → Type 0) → List Entry → RunFault → Option (List Event)
    → Option (List Event) → Type 0
LogBroken task head Front entries fault old None = ⊤
LogBroken task head Front entries fault old (Some after) =
    (events : List Event) × (stops : List Event) × (after ≡ events ++ stops) × All IsStop stops
    × RunBreaks task head [] fault old (Some events) Front entries

-- ---- one child

-- The log grew by reads of a child, and at most one that was refused, as the fault tells: want of memory has one; each
-- at a moment at which the bytes kept and those that had come made no whole line.
abbrev pub LogHears : ℕ → List ℕ → RunFault → Option (List Event) → Option (List Event) → Type 0
LogHears child kept fault old new =
    (events : List Event) × (refused : List Event) × All (IsGiven child) events
    × ((k : ℕ) → k < length events → lines_of (kept ++ (spelled child silence (take k events)).heard) ≡ [])
    × ((refused ≡ [])
    ⊎ ((cause : HostFault) × (room : ℕ) × (refused ≡ heard child room (Err cause) ∷ [])
    × (lines_of (kept ++ (spelled child silence events).heard) ≡ [])))
    × Tells ⊥ fault refused × Extends old new (events ++ refused)
