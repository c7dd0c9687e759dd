-- What a host that plays scripts is seen as.
use Rattle.std.specs.Prelude.{◌≡◌, ◌≢◌, ℕ, Bool, true, false, not, ◌||◌, ◌&&◌, ◌==◌, List, [], ◌∷◌, length, take, drop, map, replicate, count_by, min, ◌+◌, ◌-◌, nat_lt, if◌then◌else◌, Option, slice_get, unwrap_or, Result, Ok, Err, IfOk, MatchResult}
use Rattle.io_world.specs.Faults.{last_call, last_count, Counts}
use Rattle.io_world.specs.Logs.{Calls, no_calls, said_of}
use Rattle.io_world.specs.Plans.{Plan, planned, after_call, fails_next, cut_or, FailsWhere}
use Rattle.io_world.specs.Scripted.{Scripted, no_script}
use Rattle.io_world.specs.Talks.{Talk, Same, Becomes}
use Rattle.io_world.specs.declared.host.HostFault.{HostFault}
use Rattle.io_world.specs.declared.host.HostFault.TheVariants.{Failed, Memory}
use Rattle.io_world.specs.declared.host.TheConstants.{CHILDREN}
use Rattle.io_world.specs.declared.progress.Progress.{Progress}
use Rattle.io_world.specs.declared.scripts.Scripts.{Scripts}
use Rattle.io_world.specs.declared.scripts.Scripts.TheVariants.{One, Several}

-- the scripts of each child, and whether each start plays the next of them
pub record ScriptHostState : Type 0 where
  pub scripts : List (List Scripted)
  pub again : Bool
  pub progress : List Progress
  pub calls : Calls
  pub plan : Plan
  pub faults : ℕ

-- a child that wasn't started
abbrev pub idle : Progress
idle = record { running = false; position = 0; reads = 0; lines = 0; starts = 0 }

-- a number that stops
abbrev pub more : ℕ → ℕ → ℕ
more n by = min (n + by) last_call

-- a child that was just started, after so many starts before
abbrev pub begun : ℕ → Progress
begun starts = record { running = true; position = 0; reads = 0; lines = 0; starts = more starts 1 }

abbrev pub progress_of : List Progress → ℕ → Progress
progress_of progress child = unwrap_or (slice_get progress child) idle

-- the scripts of each child: one, or several
abbrev pub scripts_of : Scripts → List (List Scripted)
scripts_of (One scripts) = map (λ script. script ∷ []) scripts.items
scripts_of (Several lists) = map (λ scripts. scripts.items) lists.items

abbrev pub is_again : Scripts → Bool
is_again (One scripts) = false
is_again (Several lists) = true

-- none of these children was started yet
abbrev pub unplayed : List (List Scripted) → Bool → List ℕ → ScriptHostState
unplayed scripts again fails = record {
  scripts = scripts;
  again = again;
  progress = replicate CHILDREN idle;
  calls = no_calls;
  plan = planned fails;
  faults = 0;
}

abbrev pub scripts_for : List (List Scripted) → ℕ → List Scripted
scripts_for scripts child = unwrap_or (slice_get scripts child) []

-- which of its scripts the child plays since its last start
abbrev pub turn_of : ScriptHostState → ℕ → ℕ
turn_of host child = if host.again then (progress_of host.progress child).starts - 1 else 0

-- the script that the child plays since its last start
abbrev pub script_of : ScriptHostState → ℕ → Scripted
script_of host child = unwrap_or (slice_get (scripts_for host.scripts child) (turn_of host child)) no_script

-- the child has no script for its next start
abbrev pub is_played_out : ScriptHostState → ℕ → Bool
is_played_out host child = not (nat_lt child (length host.scripts))
    || (host.again
    && not (nat_lt (progress_of host.progress child).starts (length (scripts_for host.scripts child))))

-- the place before which bytes may be given, `end` or less: each need that isn't met lowers it
abbrev pub open_to : List Progress → List (ℕ × ℕ × ℕ) → ℕ → ℕ
open_to progress [] end = end
open_to progress (need ∷ needs) end =
    open_to progress needs (if nat_lt (progress_of progress need.1).lines need.2 then min end need.0 else end)

-- the bytes of a script from a position on, up to the first place that isn't open
abbrev pub open_bytes : Scripted → List Progress → ℕ → List ℕ
open_bytes script progress position =
    take (open_to progress script.needs (length script.bytes) - position) (drop position script.bytes)

-- the bytes that the child may be heard to say now
abbrev pub ready : ScriptHostState → ℕ → List ℕ
ready host child = open_bytes (script_of host child) host.progress (progress_of host.progress child).position

-- how many bytes the next read of the child gives, where it gives any
abbrev pub most_given : ScriptHostState → ℕ → ℕ → ℕ
most_given host child room =
    min (length (ready host child))
    (min room (cut_or (script_of host child).cuts (progress_of host.progress child).reads room))

abbrev pub is_running : ScriptHostState → ℕ → Bool
is_running host child = (progress_of host.progress child).running

abbrev pub talk_with : ScriptHostState → ℕ → Option Talk
talk_with host child = said_of host.calls child

-- the next start of this child fails
abbrev pub start_fails : ScriptHostState → ℕ → Bool
start_fails host child = fails_next host.plan || is_played_out host child

-- the next read of this child fails
abbrev pub read_fails : ScriptHostState → ℕ → Bool
read_fails host child = fails_next host.plan || (length (ready host child) == 0)

-- how many bytes a read gave
abbrev pub given_count : {E : Type 0} → Result ℕ E → ℕ
given_count (Ok n) = n
given_count (Err fault) = 0

abbrev pub line_feeds : List ℕ → ℕ
line_feeds bytes = count_by (λ byte. byte == 10) bytes

-- One call: it fails exactly where that is due, each fault counts, the log is as whole as before as long as there is
-- memory, and the call goes by its number. Nothing else but the progress changes.
pub record Plays {T : Type 0} (due : Bool) (old new : ScriptHostState) (result : Result T HostFault) : Type 0 where
  pub counts : Counts Failed last_count old.faults new.faults result
  pub fails : FailsWhere Failed due result
  pub whole : (result ≢ Err Memory) → new.calls.whole ≡ old.calls.whole
  pub kept : new
      ≡ record old { plan = after_call old.plan; faults = new.faults; calls = new.calls; progress = new.progress }

-- A write takes all of these bytes, and their line feeds count for the child.
pub record Feeds (child : ℕ) (bytes : List ℕ) (old new : List Progress) (result : Result ℕ HostFault) : Type 0 where
  pub all : IfOk result (λ n. n ≡ length bytes)
  pub progress : let p = progress_of old child in
      MatchResult result
      (λ n. Becomes child (record p { lines = more p.lines (line_feeds bytes) }) (progress_of old) (progress_of new))
      (λ fault. Same (progress_of old) (progress_of new))

-- A read gives what the child's script has ready and its cut allows, and moves the child on by it. Each read counts.
pub record Gets (child : ℕ) (room filled : List ℕ) (old new : ScriptHostState) (result : Result ℕ HostFault)
    : Type 0 where
  pub most : IfOk result (λ n. n ≡ most_given old child (length room))
  pub bytes : IfOk result (λ n. take n filled ≡ take n (ready old child))
  pub progress : let p = progress_of old.progress child in
      Becomes child (record p { reads = more p.reads 1; position = p.position + given_count result })
      (progress_of old.progress) (progress_of new.progress)
