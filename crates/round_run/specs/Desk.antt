-- What lies on the desk of a run, and what a part of a run does to it.
use Rattle.std.specs.Prelude.{◌≡◌, ◌⊎◌, ℕ, Bool, false, List, [], ◌∷◌, ◌++◌, length, Option, Result, OnOk, IfOk, IfErr}
use Rattle.io_world.specs.Faults.{HasCause, last_count}
use Rattle.io_world.specs.Talks.{Event, Same, Talk}
use Rattle.round_run.specs.TurnLines.{Advances, IsMarked, TurnBreaks}
use Rattle.round_run.specs.Told.{Stretch, HostTold}
use Rattle.round_run.specs.Batches.{AreStarted, IsRunnable}
use Rattle.round_run.specs.Breaking.{RunBreaks}
use Rattle.round_run.specs.Calls.{Runs}
use Rattle.round_run.specs.Dialogue.{workers_in}
use Rattle.round_run.specs.Held.{Held, is_child_running}
use Rattle.io_world.specs.Leads.{IsLed}
use Rattle.round_run.specs.Led.{stops_for_memory}
use Rattle.round_run.specs.Resting.{AreCaused, GoesInOrder, Rests}
use Rattle.round_run.specs.Rolling.{Goes, Stopped}
use Rattle.round_run.specs.Stops.{MayWrite}
use Rattle.round_run.specs.Talking.{IsTold, held_of}
use Rattle.round_run.specs.declared.fault.RunFault.{RunFault}
use Rattle.round_run.specs.declared.fault.RunFault.TheVariants.{Write}
use Rattle.session_core.specs.Session.{IsNew, IsOf, IsSession}
use Rattle.session_core.specs.State.{State}
use Rattle.task_model.specs.declared.task.Task.{Task}
use Rattle.transcript_model.specs.Legal.{asks_of}
use Rattle.transcript_model.specs.declared.entry.Entry.{Entry}
use Rattle.transcript_model.specs.declared.head.Head.{Head}

-- The task and the head of the run, its session, and what is kept of its children.
pub record AtDesk : Type 0 where
  pub task : Task
  pub head : Head
  pub state : State
  pub held : Held

-- a desk with these on it
abbrev pub desk_of : Task → Head → State → Held → AtDesk
desk_of task head s held = record { task = task; head = head; state = s; held = held }

-- What holds of every desk: the head can be run, and the session is one of the task.
pub record IsDesk (task : Task) (head : Head) (s : State) : Type 0 where
  pub runnable : IsRunnable task head
  pub session : IsSession task s

-- it is a desk of the same task and head
pub record IsSameDesk (old new : AtDesk) : Type 0 where
  pub task : new.task ≡ old.task
  pub head : new.head ≡ old.head

-- between two turns
abbrev pub RestsAt : AtDesk → HostTold → Type 0
RestsAt desk host = Rests desk.task desk.head desk.state desk.held host.running host.spoken

-- how calls on children bring entries, and how they break off
abbrev pub Order : Type 1
Order = List Entry → List Entry → Option (List Event) → Option (List Event) → Type 0

abbrev pub Broken : Type 1
Broken = List Entry → RunFault → Option (List Event) → Option (List Event) → (List Entry → Type 0) → List Entry
    → Type 0

-- What a part of a run has done. Behind an Ok the desk stands so again, this is so of what was answered, and entries
-- came behind the others, were written, and came by such calls; where no request came the host is as it was. Behind a
-- fault what was to be written is such a front. A call that wanted memory was the last, and so the run stops.
pub record HasDone {T : Type 0} (task : Task) (head : Head) (old new : AtDesk) (c : Stretch)
    (Holds : AtDesk → HostTold → Type 0) (Came : Order) (Broke : Broken)
    (What : T → Type 0) (Front : List Entry → Type 0) (result : Result T RunFault) : Type 0 where
  pub same : IsSameDesk old new
  pub holds : OnOk result (Holds new c.now.host)
  pub ran : IfOk result What
  pub adds : OnOk result (GoesInOrder old.state.entries new.state.entries c.was.taken c.now.taken
      (Came old.state.entries new.state.entries c.was.host.log c.now.host.log))
  pub stopped : IfErr result (λ fault. Stopped head.version task (workers_in head) Front old.state.entries fault
      c.was.taken c.now.taken c.now.host.spoken (Broke old.state.entries fault c.was.host.log c.now.host.log))
  pub state : Same c.now.host.running (is_child_running new.held)
  pub causes : AreCaused c.last c.was.host.faults c.now.host.faults c.was.lost c.now.lost result
  pub led : IsLed c.host.leads (stops_for_memory result)
  pub still : OnOk result (asks_of new.state.entries ≡ asks_of old.state.entries → c.host.same)

-- by the starts of all workers, where the first request is among them, and the calls of each entry
abbrev pub OnBatch : {T : Type 0} → AtDesk → AtDesk → Stretch → (T → Type 0) → (List Entry → Type 0)
    → Result T RunFault → Type 0
OnBatch old new c What Front result =
    HasDone old.task old.head old new c RestsAt (Runs old.task old.head) (RunBreaks old.task old.head) What Front result

-- the same, and no call was made but where a line came that may have requests behind it
abbrev pub OnTurn : {T : Type 0} → AtDesk → AtDesk → Stretch → (T → Type 0) → (List Entry → Type 0)
    → Result T RunFault → Type 0
OnTurn old new c What Front result =
    HasDone old.task old.head old new c RestsAt (Advances old.task old.head) (TurnBreaks old.task old.head) What Front
    result

-- the entry is there, or not yet
abbrev pub IsFrontOfMark : List Entry → Entry → List Entry → Type 0
IsFrontOfMark before entry es = (es ≡ before) ⊎ (es ≡ before ++ entry ∷ [])

-- An entry was put behind the transcript, and its lines were written; or the first of them were, or memory was wanting.
pub record MarksEntry (e : Entry) (old new : State) (was now : Option (List ℕ)) (lost lost_now : ℕ)
    (result : Result (Unit {0}) RunFault) : Type 0 where
  pub marked : OnOk result (IsMarked e old new)
  pub kept : (task : Task) → IsSession task old → IsSession task new
  pub goes : OnOk result (Goes old.entries (old.entries ++ e ∷ []) was now)
  pub stopped : (task : Task) (running : ℕ → Bool) (kept : ℕ → List ℕ) (spoken : ℕ → Option Talk) → IsSession task old
      → IsTold task old.version old.pools old.entries running kept spoken
      → AreStarted old.pools (length old.asked) running
      → IfErr result (λ fault. Stopped old.version task old.pools (IsFrontOfMark old.entries e) old.entries fault was now
      spoken (λ Front more. (more ≡ []) ⊎ (more ≡ e ∷ [])))
  pub only : IfErr result MayWrite
  pub cause : HasCause Write last_count lost lost_now result

-- Nothing was asked, nothing is kept of any child, and none was started.
pub record IsClean (t : Task) (h : Head) (desk : AtDesk) : Type 0 where
  pub task : desk.task ≡ t
  pub head : desk.head ≡ h
  pub new : IsNew t desk.state
  pub of : IsOf h desk.state
  pub idle : (k : ℕ) → is_child_running desk.held k ≡ false
  pub empty : (k : ℕ) → held_of desk.held k ≡ []
