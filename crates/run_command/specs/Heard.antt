-- What a run hears of its children, who may be started again where they fail.
use Rattle.std.specs.Prelude.{◌≡◌, ◌≤◌, ℕ, zero, suc, List, [], Option, Some, Result, IfErr, IfOk, IsErrOf, true, false}
use Rattle.io_world.specs.Faults.{HasCause, last_count}
use Rattle.io_world.specs.Logs.{Calls, said_of, told_of}
use Rattle.io_world.specs.Talks.{Event, LogGrows, Talk}
use Rattle.command_files.specs.Outside.{FilesSeen, Outside}
use Rattle.command_files.specs.declared.stop.Stop.{Stop}
use Rattle.command_files.specs.declared.stop.Stop.TheVariants.{Run}
use Rattle.command_line.specs.Words.{Command, command_of, solve}
use Rattle.restart_host.specs.Leads.{AreDoneBelow, RoseBy}
use Rattle.restart_host.specs.Tries.{failures}
use Rattle.round_run.specs.Told.{Course, Stretch}
use Rattle.round_run.specs.declared.fault.RunFault.{RunFault}
use Rattle.round_run.specs.declared.fault.RunFault.TheVariants as fault
use Rattle.task_model.specs.declared.task.Task.{Task}
use Rattle.transcript_model.specs.declared.head.Head.{Head}
use Rattle.turn_run.specs.Reports.{IsBroken, IsReported}
use Rattle.turn_run.specs.declared.whole_run.Ran.{Ran}

-- What was said with each child, at last, and the calls that came to the log.
pub record Heard : Type 0 where
  pub spoken : ℕ → Option Talk
  pub was : Option (List Event)
  pub now : Option (List Event)

-- what was heard of children, of all that a run sees
abbrev pub heard_in : Outside → Heard
heard_in outside = record { spoken = outside.spoken; was = outside.was; now = outside.now }

-- the files, and what was heard of children
abbrev pub hearing : FilesSeen → Heard → Outside
hearing files heard = record { files = files; spoken = heard.spoken; was = heard.was; now = heard.now }

-- ---- children that are started again

-- how many failures of children are made good
abbrev pub restarts_for : Option Command → ℕ
restarts_for (Some (solve w)) = w.restarts
restarts_for other = 0

-- the same by words
abbrev pub restarts_in : List (List ℕ) → ℕ
restarts_in words = restarts_for (command_of words)

-- What was heard of children that are started again where they fail (`heard`): it is what the host tells that starts
-- them, whose log begins with the run and has all its calls, unless memory was lacking. Where it has, and the host below
-- tells its own (`below`), these calls were done there by those that came meanwhile: each request was brought, and each
-- line fetched (`AreDone`).
pub record IsHeardAgain (Lacked : Type 0) (below heard : Heard) : Type 0 where
  pub calls : Calls
  pub spoken : heard.spoken ≡ said_of calls
  pub was : heard.was ≡ Some []
  pub now : heard.now ≡ told_of calls
  pub whole : ¬ Lacked → calls.whole ≡ true
  pub events : List Event
  pub log : LogGrows below.was below.now events
  pub done : calls.whole ≡ true → AreDoneBelow [] calls.events below.was below.now events

-- What a run heard of its children, and what their host tells: the same, where none is started again.
abbrev pub IsHeard : (restarts : ℕ) → (Lacked : Type 0) → (below heard : Heard) → Type 0
IsHeard zero Lacked below heard = heard ≡ below
IsHeard (suc more) Lacked below heard = IsHeardAgain Lacked below heard

-- One call more on children failed than is made good: the count of faults rose by as many, up to its last value, and so
-- many of the starts, writes and reads failed that came to a log that is told.
pub record AreTooMany (restarts : ℕ) (c : Course) : Type 0 where
  pub rose : RoseBy (suc restarts) c.last c.was.faults c.now.faults
  pub events : List Event
  pub log : LogGrows c.was.log c.now.log events
  pub failed : failures events ≡ suc restarts

-- No more calls on children failed than are made good: of the starts, writes and reads that came to a log that is told.
pub record AreMadeGood (restarts : ℕ) (c : Course) : Type 0 where
  pub events : List Event
  pub log : LogGrows c.was.log c.now.log events
  pub failed : failures events ≤ restarts

-- How many calls on children failed, by how a part of a run ends: one more than is made good where a generator is at
-- fault, and else no more, unless memory was wanting.
pub record CountFailures {T E : Type 0} (generator memory : E) (restarts : ℕ) (c : Course) (result : Result T E)
    : Type 0 where
  pub many : IsErrOf result generator → AreTooMany restarts c
  pub few : ¬ (IsErrOf result generator) → ¬ (IsErrOf result memory) → AreMadeGood restarts c

-- the same, by why it stops
abbrev pub AreCounted : {T : Type 0} → ℕ → Course → Result T Stop → Type 0
AreCounted = CountFailures (Run fault.Generator) (Run fault.Memory)

-- ---- a run over a task

-- what was heard of the children of a host
abbrev pub heard_over : Stretch → Heard
heard_over c = record { spoken = c.now.host.spoken; was = c.was.host.log; now = c.now.host.log }

-- what their host tells
abbrev pub course_of : Stretch → Course
course_of c = record { last = c.last; was = c.was.host; now = c.now.host; host = c.host }

-- What a run over a task has done, by what it heard of its children, of whose failures so many were made good: a whole
-- report was written, or a part of one; where nothing was asked no call was made, and the host itself is as it was; no
-- child runs; a fault of a generator is answered only where one call more failed than is made good, and else no more
-- did, unless memory was wanting; and one of the sink is answered only where its count rose.
pub record EndsHeard (restarts : ℕ) (task : Task) (head : Head) (c : Stretch) (result : Result Ran RunFault)
    : Type 0 where
  pub heard : Heard
  pub by : IsHeard restarts (IsErrOf result fault.Memory) (heard_over c) heard
  pub reported : IfOk result (IsReported task head heard.spoken heard.was heard.now c.was.taken c.now.taken)
  pub broken : IfErr result (IsBroken task head heard.spoken heard.was heard.now c.was.taken c.now.taken)
  pub unneeded : IfOk result (λ ran. ran.asks ≡ 0 → (heard.now ≡ heard.was) × c.host.same)
  pub idle : (k : ℕ) → c.now.host.running k ≡ false
  pub host : HasCause fault.Generator c.last c.was.host.faults c.now.host.faults result
  pub failed : CountFailures fault.Generator fault.Memory restarts (course_of c) result
  pub sink : HasCause fault.Write last_count c.was.lost c.now.lost result
