-- What is done in an open round, in a whole round, and in the rounds of a batch.
use Rattle.std.specs.Prelude.{◌≡◌, ◌⊎◌, ◌++◌, ℕ, ◌<◌, List, length, take, Result, IfErr, IfOk, OnOk}
use Rattle.instance_queue.specs.Level.{due_instances}
use Rattle.instance_queue.specs.declared.due.Due.{Due}
use Rattle.io_world.specs.Faults.{HasCause}
use Rattle.io_world.specs.Talks.{Same}
use Rattle.round_run.specs.Breaking.{LogBreaks}
use Rattle.round_run.specs.Calls.{AddsCalls, LogStartsPart, starts_of}
use Rattle.round_run.specs.Dialogue.{workers_in}
use Rattle.round_run.specs.Held.{Held, is_child_running}
use Rattle.io_world.specs.Leads.{IsLed}
use Rattle.round_run.specs.Led.{stops_for_memory}
use Rattle.round_run.specs.Resting.{AreCaused, GoesInOrder, HasStarted, IsFrontOfBatch, Listens, RanBatch, RanRound, Rolled, Stays, StaysIdle, Works}
use Rattle.round_run.specs.Rolling.{Goes, IsFrontPart, Stopped, finished_round}
use Rattle.round_run.specs.Stops.{MayHear}
use Rattle.round_run.specs.Talking.{IsTalking, held_of}
use Rattle.round_run.specs.Told.{Course, Stretch}
use Rattle.round_run.specs.declared.ending.Batch.{Batch}
use Rattle.round_run.specs.declared.fault.RunFault.{RunFault}
use Rattle.round_run.specs.declared.fault.RunFault.TheVariants.{Generator}
use Rattle.session_core.specs.Session.{IsSession}
use Rattle.session_core.specs.Slots.{Slot}
use Rattle.session_core.specs.State.{State}
use Rattle.task_model.specs.declared.task.Task.{Task}
use Rattle.transcript_model.specs.Rounds.{IsRound}
use Rattle.transcript_model.specs.declared.entry.Entry.{Entry}
use Rattle.transcript_model.specs.declared.head.Head.{Head}

-- ---- an open round

-- the entries before an open round, and so many of its requests
abbrev pub asked_to : State → ℕ → List Entry
asked_to s sent = s.entries ++ take sent s.asks

-- the same with all of its requests, and so many of the answers that these slots have
abbrev pub heard_to : State → List Slot → ℕ → List Entry
heard_to s slots answered = s.entries ++ s.asks ++ take answered (finished_round slots)

-- the first entries of what would be the open round, behind those before it
abbrev pub IsFrontOfOpen : Task → State → List Entry → Type 0
IsFrontOfOpen task s = IsFrontPart s.entries (IsRound task s.entries s.instances)

-- Requests of an open round, from so many that were sent to so many, were written to their children, and their lines to
-- the sink: of a session's task, where this was said, that was said, by calls on these children. Behind a fault the
-- first of them were, and one perhaps in part. No child was started or stopped.
pub record SendsOn (old new : State) (c : Stretch) (sent sent_now : ℕ) (before after : List Entry)
    (result : Result (Unit {0}) RunFault) : Type 0 where
  pub rolled : OnOk result (Rolled old new c.now.host.running sent_now 0)
  pub goes : OnOk result (Goes before after c.was.taken c.now.taken)
  pub said : (task : Task) (kept : ℕ → List ℕ) → IsSession task old
      → IsTalking task old sent 0 kept c.was.host.spoken
      → OnOk result (IsTalking task new sent_now 0 kept c.now.host.spoken
      × AddsCalls task old.pools before after c.was.host.log c.now.host.log)
  pub stopped : (task : Task) (kept : ℕ → List ℕ) → IsSession task old
      → IsTalking task old sent 0 kept c.was.host.spoken
      → IfErr result (λ fault. Stopped old.version task old.pools (IsFrontOfOpen task old) before fault c.was.taken
      c.now.taken c.now.host.spoken (LogBreaks task old.version old.pools before fault c.was.host.log c.now.host.log))
  pub kept : (task : Task) → IsSession task old → IsSession task new
  pub running : Same c.was.host.running c.now.host.running
  pub causes : AreCaused c.last c.was.host.faults c.now.host.faults c.was.lost c.now.lost result
  pub led : IsLed c.host.leads (stops_for_memory result)

-- Answers of an open round whose requests are all sent, from so many that were heard to so many, were heard, and their
-- lines written. Of children that don't run the same bytes are kept.
pub record HearsOn (old new : State) (held left : Held) (c : Stretch) (heard heard_now : ℕ) (before after : List Entry)
    (result : Result (Unit {0}) RunFault) : Type 0 where
  pub rolled : OnOk result (Rolled old new c.now.host.running (length new.slots) heard_now)
  pub goes : OnOk result (Goes before after c.was.taken c.now.taken)
  pub said : (task : Task) → IsSession task old
      → IsTalking task old (length old.slots) heard (held_of held) c.was.host.spoken
      → OnOk result (IsTalking task new (length new.slots) heard_now (held_of left) c.now.host.spoken
      × AddsCalls task old.pools before after c.was.host.log c.now.host.log)
  pub stopped : (task : Task) → IsSession task old
      → IsTalking task old (length old.slots) heard (held_of held) c.was.host.spoken
      → IfErr result (λ fault. Stopped old.version task old.pools (IsFrontOfOpen task old) before fault c.was.taken
      c.now.taken c.now.host.spoken (LogBreaks task old.version old.pools before fault c.was.host.log c.now.host.log))
  pub kept : (task : Task) → IsSession task old → IsSession task new
  pub same : StaysIdle held left c.was.host.running c.now.host.running
  pub causes : AreCaused c.last c.was.host.faults c.now.host.faults c.was.lost c.now.lost result
  pub led : IsLed c.host.leads (stops_for_memory result)

-- ---- rounds

-- A round of these asks was run, and its answers learnt; behind a fault the first of it.
pub record RunsRound (task : Task) (dues : List Due) (old new : State) (held left : Held) (c : Stretch)
    (result : Result (Unit {0}) RunFault) : Type 0 where
  pub session : IsSession task new
  pub listens : OnOk result (Listens task new left c.now.host.running c.now.host.spoken)
  pub ran : OnOk result (RanRound task dues old new)
  pub adds : OnOk result (GoesInOrder old.entries new.entries c.was.taken c.now.taken
      (AddsCalls task old.pools old.entries new.entries c.was.host.log c.now.host.log))
  pub stopped : IfErr result (λ fault. Stopped old.version task old.pools
      (IsFrontPart old.entries (IsRound task old.entries (due_instances dues))) old.entries fault c.was.taken c.now.taken
      c.now.host.spoken (LogBreaks task old.version old.pools old.entries fault c.was.host.log c.now.host.log))
  pub same : Stays held left c.was.host.running c.now.host.running
  pub causes : AreCaused c.last c.was.host.faults c.now.host.faults c.was.lost c.now.lost result
  pub led : IsLed c.host.leads (stops_for_memory result)

-- The asks were run in rounds, as far as calls were left; behind a fault, where something was to be asked, the first of
-- these rounds.
pub record RunsRounds (task : Task) (head : Head) (dues : List Due) (old new : State) (held left : Held) (c : Stretch)
    (result : Result Batch RunFault) : Type 0 where
  pub session : IsSession task new
  pub works : OnOk result (Works task head new left c.now.host.running c.now.host.spoken)
  pub ran : IfOk result (RanBatch task head dues old new)
  pub adds : OnOk result (GoesInOrder old.entries new.entries c.was.taken c.now.taken
      (AddsCalls task (workers_in head) old.entries new.entries c.was.host.log c.now.host.log))
  pub stopped : IfErr result (λ fault. (0 < length dues) × Stopped head.version task (workers_in head)
      (IsFrontOfBatch task head old.entries dues) old.entries fault c.was.taken c.now.taken c.now.host.spoken
      (LogBreaks task head.version (workers_in head) old.entries fault c.was.host.log c.now.host.log))
  pub same : Stays held left c.was.host.running c.now.host.running
  pub causes : AreCaused c.last c.was.host.faults c.now.host.faults c.was.lost c.now.lost result
  pub led : IsLed c.host.leads (stops_for_memory result)
  pub still : OnOk result (length new.asked ≡ length old.asked → c.host.same)

-- All workers run, if something is to be asked; or a start was refused, and nothing was asked before.
pub record StartsWorkers (task : Task) (head : Head) (dues : List Due) (s : State) (left : Held) (c : Course)
    (result : Result (Unit {0}) RunFault) : Type 0 where
  pub works : OnOk result (Works task head s left c.now.running c.now.spoken)
  pub started : OnOk result (HasStarted head s dues c.was.running c.now.running c.was.log c.now.log)
  pub refused : IfErr result (λ fault. (length s.asked ≡ 0) × MayHear fault
      × LogStartsPart (starts_of head.pools) fault c.was.log c.now.log)
  pub state : Same c.now.running (is_child_running left)
  pub cause : HasCause Generator c.last c.was.faults c.now.faults result
  pub led : IsLed c.host.leads (stops_for_memory result)
  pub still : OnOk result ((0 < length s.asked) ⊎ (length dues ≡ 0) → c.host.same)
