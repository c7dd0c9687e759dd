-- The calls of a run whose children are started again where they fail.
use Rattle.std.specs.Prelude.{◌≡◌, ℕ, List, [], ◌∷◌, ◌++◌, length, map, replicate, slice_get, string_bytes, Option, None, Some, Err, ⊤}
use Rattle.std.specs.List.{All, find}
use Rattle.gen_lines.specs.Reply.{reply_of}
use Rattle.io_world.specs.Talks.{Event, started}
use Rattle.io_world.specs.declared.host.HostFault.TheVariants.{Failed}
use Rattle.pools.specs.Pools.{child_for}
use Rattle.restart_host.specs.Lives.{Brings, Fetches, moment_of}
use Rattle.round_run.specs.Calls.{IsStop, has_child, next_request, starts_before}
use Rattle.round_run.specs.Dialogue.{Request, called_stream, last_round, replies_of, requests_of, text_of_request, wanted_by, workers_in}
use Rattle.session_core.specs.Slots.{replied_entry}
use Rattle.task_model.specs.declared.task.Task.{Task}
use Rattle.transcript_model.specs.Legal.{asks_of}
use Rattle.transcript_model.specs.declared.entry.Entry.{Entry}
use Rattle.transcript_model.specs.declared.entry.Entry.TheVariants as entry
use Rattle.transcript_model.specs.declared.head.Head.{Head}
use Rattle.transcript_model.specs.declared.head.Pool.{Pool}

-- the words of a pool
abbrev pub pool_words : Option Pool → List (List ℕ)
pool_words None = []
pool_words (Some pool) = map string_bytes pool.argv

-- the words of the pool that has the child
abbrev pub words_for : List Pool → ℕ → List (List ℕ)
words_for pools child = pool_words (find (has_child child) pools)

-- The answer that comes next is what a line says that was fetched by these tries: it stands at the place of its request
-- in one life of the child.
pub record Answered (task : Task) (head : Head) (past : List Event) (before : List Entry) (e : Entry)
    (tries : List Event) : Type 0 where
  pub request : Request
  pub next : slice_get (requests_of task (workers_in head) before) (length (replies_of before)) ≡ Some request
  pub line : List ℕ
  pub fetches : Fetches request.child (words_for head.pools request.child) (text_of_request request) line
      (moment_of request.child past) tries
  pub says : replied_entry request.number (reply_of line (wanted_by task head.version request)) ≡ Some e

module _ (task : Task) (head : Head) where
  -- The calls by which an entry comes behind these entries, after the calls that are past: a request is brought to its
  -- child, a line is fetched for an answer, and another entry needs none.
  abbrev pub AreCallsAgain : List Event → List Entry → Entry → List Event → Type 0
  AreCallsAgain past before (entry.Ask number turn call) events =
      let child : ℕ = child_for (workers_in head) (last_round task [] before) (called_stream task call) in
      Brings child (words_for head.pools child) []
      (text_of_request (next_request task (workers_in head) before number turn call)) (moment_of child past) events
  AreCallsAgain past before (entry.Got number tuples values) events =
      Answered task head past before (entry.Got number tuples values) events
  AreCallsAgain past before (entry.Value number value) events =
      Answered task head past before (entry.Value number value) events
  AreCallsAgain past before (entry.End number) events = Answered task head past before (entry.End number) events
  AreCallsAgain past before e events = events ≡ []

  -- The calls by which these entries come, one after another: they are cut, in order, into the calls of each.
  abbrev pub FollowsAgain : List Event → List Entry → List Entry → List Event → Type 0
  FollowsAgain past before [] events = events ≡ []
  FollowsAgain past before (e ∷ entries) events =
      (now : List Event) × (later : List Event) × (events ≡ now ++ later) × AreCallsAgain past before e now
      × FollowsAgain (past ++ now) (before ++ e ∷ []) entries later

-- the same start, refused
abbrev pub refused_start : Event → Event
refused_start (started child words answer) = started child words (Err Failed)
refused_start event = event

-- each of these starts, behind any number of the same that failed
abbrev pub AreBegunAtLast : List Event → List Event → Type 0
AreBegunAtLast [] events = events ≡ []
AreBegunAtLast (start ∷ more) events =
    (n : ℕ) × (later : List Event) × (events ≡ replicate n (refused_start start) ++ start ∷ later)
    × AreBegunAtLast more later

-- The calls of a whole run: the starts of all workers, if it has a request; the calls of its entries; and stops.
abbrev pub LogRanAgain : Task → Head → List Entry → Option (List Event) → Option (List Event) → Type 0
LogRanAgain task head entries old None = ⊤
LogRanAgain task head entries old (Some after) =
    (past : List Event) × (starts : List Event) × (events : List Event) × (stops : List Event) × (old ≡ Some past)
    × AreBegunAtLast (starts_before head.pools 0 (asks_of entries)) starts
    × (after ≡ (past ++ starts) ++ events ++ stops)
    × FollowsAgain task head (past ++ starts) [] entries events
    × All IsStop stops
