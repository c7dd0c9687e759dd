-- The order of the calls on children: which of them bring each entry of a transcript.
use Rattle.std.specs.Prelude.{◌≡◌, ℕ, ◌+◌, zero, suc, ◌<◌, ◌≤◌, nat_lt, Bool, not, ◌&&◌, List, [], ◌∷◌, ◌++◌, length, take, map, string_bytes, Option, None, Some, Ok, ⊤, slice_get, Err}
use Rattle.std.specs.List.{All, find, flat_map}
use Rattle.lemmas.specs.Lists.{numbers_from}
use Rattle.gen_lines.specs.Lines.{lines_of}
use Rattle.io_world.specs.Faults.{Extends}
use Rattle.io_world.specs.declared.host.HostFault.{HostFault}
use Rattle.io_world.specs.declared.host.TheConstants.{CHILDREN}
use Rattle.io_world.specs.Talks.{Event, started, stopped, silence, spelled, IsGiven, Takes}
use Rattle.pools.specs.Pools.{Workers, child_for}
use Rattle.task_model.specs.declared.task.Task.{Task}
use Rattle.transcript_model.specs.Legal.{asks_of}
use Rattle.transcript_model.specs.declared.entry.Call.{Call}
use Rattle.transcript_model.specs.declared.entry.Entry.{Entry}
use Rattle.transcript_model.specs.declared.entry.Entry.TheVariants as entry
use Rattle.transcript_model.specs.declared.head.Pool.{Pool}
use Rattle.round_run.specs.Rolling.{IsHostFault}
use Rattle.round_run.specs.declared.fault.RunFault.{RunFault}
use Rattle.round_run.specs.Dialogue.{Request, count_to, last_round, replies_of, requests_of, called_stream, text_of_request, workers_in}
use Rattle.transcript_model.specs.declared.head.Head.{Head}

-- ---- reads

-- how many whole lines were read from the child since its last start
abbrev pub lines_read : ℕ → List Event → ℕ
lines_read child events = length (lines_of (spelled child silence events).heard)

-- how many of a transcript's answers are the child's
abbrev pub answers_by : Task → List Workers → List Entry → ℕ → ℕ
answers_by task pools entries child =
    count_to child (take (length (replies_of entries)) (requests_of task pools entries))

-- reads of a child, all Ok, each at a moment at which no more of its lines had been read than this
pub record Reads (child most : ℕ) (past events : List Event) : Type 0 where
  pub each : All (IsGiven child) events
  pub early : (k : ℕ) → k < length events → lines_read child (past ++ take k events) ≤ most

-- ---- the calls of an entry

-- what a request asks that stands behind these entries, and whom
abbrev pub next_request : Task → List Workers → List Entry → ℕ → ℕ → Call → Request
next_request task pools before number turn call =
    record {
      child = child_for pools (last_round task [] before) (called_stream task call);
      number = number;
      turn = turn;
      call = call;
    }

-- The calls of an answer: the child of the first request that isn't answered is read, only while all of its lines that
-- had come were taken, and until one more has come.
pub record Hearing (task : Task) (pools : List Workers) (past : List Event) (before : List Entry)
    (events : List Event) : Type 0 where
  pub request : Request
  pub next : slice_get (requests_of task pools before) (length (replies_of before)) ≡ Some request
  pub reads : Reads request.child (answers_by task pools before request.child) past events
  pub line : answers_by task pools before request.child < lines_read request.child (past ++ events)

module _ (task : Task) (pools : List Workers) where
  -- The calls by which an entry comes behind these entries, after the calls that are past. A request is written to its
  -- child, by writes that were taken and spell its text; an answer is read; another entry needs none.
  abbrev pub AreCallsOf : List Event → List Entry → Entry → List Event → Type 0
  AreCallsOf past before (entry.Ask number turn call) events =
      Takes (child_for pools (last_round task [] before) (called_stream task call))
      (text_of_request (next_request task pools before number turn call)) events
  AreCallsOf past before (entry.Got number tuples values) events =
      Hearing task pools past before events
  AreCallsOf past before (entry.Value number value) events = Hearing task pools past before events
  AreCallsOf past before (entry.End number) events = Hearing task pools past before events
  AreCallsOf past before e events = events ≡ []

  -- The calls by which these entries come, one after another: they are cut, in order, into the calls of each.
  abbrev pub Follows : List Event → List Entry → List Entry → List Event → Type 0
  Follows past before [] events = events ≡ []
  Follows past before (e ∷ entries) events =
      (now : List Event) × (later : List Event) × (events ≡ now ++ later) × AreCallsOf past before e now
      × Follows (past ++ now) (before ++ e ∷ []) entries later

  -- the same of the calls that came to a log that is told
  abbrev pub LogFollows : List Entry → List Entry → Option (List Event) → Option (List Event)
      → Type 0
  LogFollows before more old None = ⊤
  LogFollows before more old (Some after) =
      (past : List Event) × (events : List Event) × (old ≡ Some past) × (after ≡ past ++ events)
      × Follows past before more events

-- Entries came behind the others, by the calls that came to the log.
pub record AddsCalls (task : Task) (pools : List Workers) (before after : List Entry)
    (old new : Option (List Event)) : Type 0 where
  pub more : List Entry
  pub pushed : after ≡ before ++ more
  pub log : LogFollows task pools before more old new

-- ---- starts

-- whether the pool has the child of this number
abbrev pub has_child : ℕ → Pool → Bool
has_child child pool = not (nat_lt child pool.first) && nat_lt child (pool.first + pool.workers)

-- the child's start, Ok, with the words of its pool, and nothing where it has none
abbrev pub start_in : ℕ → Option Pool → List Event
start_in child None = []
start_in child (Some pool) = started child (map string_bytes pool.argv) (Ok tt) ∷ []

abbrev pub start_at : List Pool → ℕ → List Event
start_at pools child = start_in child (find (has_child child) pools)

-- the starts of the workers of all pools, in the order of their numbers
unfoldable pub starts_of : List Pool → List Event
starts_of pools = flat_map (start_at pools) (numbers_from 0 CHILDREN)

-- The starts that stand before these requests, where so many were made before: all, where they have the first one; and
-- else none.
abbrev pub starts_before : List Pool → (before more : ℕ) → List Event
starts_before pools zero zero = []
starts_before pools zero (suc more) = starts_of pools
starts_before pools (suc before) more = []

-- Entries came behind the others, by the calls that came to the log: the starts of all workers, if the first request is
-- among these entries, and then the calls of the entries.
abbrev pub LogRuns : Task → Head → List Entry → List Entry → Option (List Event)
    → Option (List Event) → Type 0
LogRuns task head before more old None = ⊤
LogRuns task head before more old (Some after) =
    (past : List Event) × (events : List Event) × (old ≡ Some past)
    × (after ≡ past ++ starts_before head.pools (asks_of before) (asks_of more) ++ events)
    × Follows task (workers_in head) (past ++ starts_before head.pools (asks_of before) (asks_of more)) before more
    events

pub record Runs (task : Task) (head : Head) (before after : List Entry) (old new : Option (List Event)) : Type 0 where
  pub more : List Entry
  pub pushed : after ≡ before ++ more
  pub log : LogRuns task head before more old new

-- The log grew by the first of these starts, and by the next one, which was refused, as the fault tells.
abbrev pub LogStartsPart : List Event → RunFault → Option (List Event) → Option (List Event)
    → Type 0
LogStartsPart starts fault old new =
    (n : ℕ) × (child : ℕ) × (words : List (List ℕ)) × (cause : HostFault)
    × (slice_get starts n ≡ Some (started child words (Ok tt))) × IsHostFault cause fault
    × Extends old new (take n starts ++ started child words (Err cause) ∷ [])

-- ---- stops

abbrev pub IsStop : Event → Type 0
IsStop (stopped child answer) = Unit {0}
IsStop e = ⊥

-- the log grew by stops
abbrev pub LogStops : Option (List Event) → Option (List Event) → Type 0
LogStops old new = (stops : List Event) × All IsStop stops × Extends old new stops

-- The calls of a whole run: the starts of all workers, if it has a request; the calls of its entries; and stops.
abbrev pub LogRan : Task → Head → List Entry → Option (List Event) → Option (List Event) → Type 0
LogRan task head entries old None = ⊤
LogRan task head entries old (Some after) =
    (past : List Event) × (events : List Event) × (stops : List Event) × (old ≡ Some past)
    × (after ≡ past ++ starts_before head.pools 0 (asks_of entries) ++ events ++ stops)
    × Follows task (workers_in head) (past ++ starts_before head.pools 0 (asks_of entries)) [] entries events
    × All IsStop stops

-- ---- one child

-- The log grew by reads of a child, all Ok, each at a moment at which the bytes kept and those that had come made no
-- whole line.
abbrev pub LogReads : ℕ → List ℕ → Option (List Event) → Option (List Event) → Type 0
LogReads child kept old new =
    (events : List Event) × All (IsGiven child) events
    × ((k : ℕ) → k < length events → lines_of (kept ++ (spelled child silence (take k events)).heard) ≡ [])
    × Extends old new events
