-- What the session, the lines and the children are to one another, and what a part of a run has done.
use Rattle.std.specs.Prelude.{◌≡◌, ◌≢◌, ◌+◌, ◌++◌, ℕ, ◌<◌, ◌≤◌, List, [], length, take, drop, Bool, true, false, Option, Result}
use Rattle.instance_queue.specs.Level.{due_instances}
use Rattle.instance_queue.specs.declared.due.Due.{Due}
use Rattle.io_world.specs.Faults.{Extends, HasCause, last_count}
use Rattle.io_world.specs.Talks.{Event, Same, Talk}
use Rattle.io_world.specs.declared.host.TheConstants.{CHILDREN}
use Rattle.round_run.specs.Calls.{starts_before}
use Rattle.round_run.specs.Held.{Held, is_child_running}
use Rattle.round_run.specs.Rolling.{Goes, IsFrontPart, IsRolling, IsSameRound}
use Rattle.round_run.specs.Talking.{AreSilent, IsTold, held_of}
use Rattle.round_run.specs.Batches.{AllRun, AreStarted, EndsBatch}
use Rattle.round_run.specs.declared.ending.Batch.{Batch}
use Rattle.round_run.specs.declared.fault.RunFault.{RunFault}
use Rattle.round_run.specs.declared.fault.RunFault.TheVariants.{Generator, Write}
use Rattle.session_core.specs.Ready.{AreReady}
use Rattle.session_core.specs.Session.{IsLearnt, IsOf, IsSession}
use Rattle.session_core.specs.Slots.{IsAwaited}
use Rattle.session_core.specs.State.{State}
use Rattle.task_model.specs.declared.task.Task.{Task}
use Rattle.transcript_model.specs.Rounds.{IsBatch, IsRound, limits_of}
use Rattle.transcript_model.specs.declared.entry.Entry.{Entry}
use Rattle.transcript_model.specs.declared.head.Head.{Head}

-- Between two rounds: the session works, the lines know which children run, and this was said with them.
pub record Listens (task : Task) (s : State) (held : Held) (running : ℕ → Bool)
    (spoken : ℕ → Option Talk) : Type 0 where
  pub session : IsSession task s
  pub working : s.failed ≡ false
  pub state : Same running (is_child_running held)
  pub told : IsTold task s.version s.pools s.entries running (held_of held) spoken

-- Besides, the session is one of the head, nothing is open, and all that the transcript certifies is known.
pub record Works (task : Task) (head : Head) (s : State) (held : Held) (running : ℕ → Bool)
    (spoken : ℕ → Option Talk) : Type 0 where
  pub listens : Listens task s held running spoken
  pub of : IsOf head s
  pub learnt : IsLearnt s

-- Between two turns: where nothing was asked no child runs, and else all workers do.
pub record Rests (task : Task) (head : Head) (s : State) (held : Held) (running : ℕ → Bool)
    (spoken : ℕ → Option Talk) : Type 0 where
  pub works : Works task head s held running spoken
  pub started : AreStarted s.pools (length s.asked) running

-- No child runs, and nothing is kept of any.
pub record IsAtRest (held : Held) (running : ℕ → Bool) : Type 0 where
  pub idle : (k : ℕ) → running k ≡ false
  pub state : Same running (is_child_running held)
  pub empty : (k : ℕ) → held_of held k ≡ []

-- Entries came behind the others, their lines were written, and calls came to the log in this order.
pub record GoesInOrder (before after : List Entry) (old new : Option (List ℕ)) (Order : Type 0) : Type 0 where
  pub goes : Goes before after old new
  pub order : Order

-- The dues were asked in rounds, as far as calls were left, and the batch ended so.
pub record RanBatch (task : Task) (head : Head) (dues : List Due) (old new : State) (b : Batch) : Type 0 where
  pub more : List Entry
  pub pushed : new.entries ≡ old.entries ++ more
  pub batch : IsBatch (limits_of head) task old.entries (due_instances dues) more
  pub grows : length old.asked ≤ length new.asked
  pub ends : EndsBatch task new.entries (length old.asked) (length new.asked) head.calls (length dues) b

-- The first entries of what would be a batch of these dues.
abbrev pub IsFrontOfBatch : Task → Head → List Entry → List Due → List Entry → Type 0
IsFrontOfBatch task head before dues =
    IsFrontPart before (IsBatch (limits_of head) task before (due_instances dues))

-- No child was started or stopped.
pub record Stays (before after : Held) (was now : ℕ → Bool) : Type 0 where
  pub started : after.started ≡ before.started
  pub running : Same was now

-- All workers run, if something is to be asked; else the children are as before. The starts came to the log where they
-- were the first.
pub record HasStarted (head : Head) (s : State) (dues : List Due)
    (was running : ℕ → Bool) (old new : Option (List Event)) : Type 0 where
  pub ready : 0 < length dues → AllRun s.pools running
  pub idle : length dues ≡ 0 → Same was running
  pub log : Extends old new (starts_before head.pools (length s.asked) (length dues))

-- A fault of a generator is answered only where the host's count of faults rose, and one of the sink only where the
-- sink's did.
pub record AreCaused {T : Type 0} (last host_old host_new sink_old sink_new : ℕ)
    (result : Result T RunFault) : Type 0 where
  pub host : HasCause Generator last host_old host_new result
  pub sink : HasCause Write last_count sink_old sink_new result

-- ---- an open round

-- Nothing but the slots of the round has changed, as many as before, of which so many are sent and so many answered.
pub record Rolled (old new : State) (running : ℕ → Bool) (sent answered : ℕ) : Type 0 where
  pub same : IsSameRound old new
  pub rolling : IsRolling new running sent answered
  pub many : length new.slots ≡ length old.slots

-- No child was started or stopped, and of those that don't run the same bytes are kept.
pub record StaysIdle (before after : Held) (was running : ℕ → Bool) : Type 0 where
  pub stays : Stays before after was running
  pub idle : (k : ℕ) → was k ≡ false → held_of after k ≡ held_of before k

-- The round was run, and what was answered is learnt. What waited behind it is due still.
pub record RanRound (task : Task) (dues : List Due) (old new : State) : Type 0 where
  pub working : new.failed ≡ false
  pub learnt : IsLearnt new
  pub calls : new.calls ≡ old.calls
  pub version : new.version ≡ old.version
  pub pools : new.pools ≡ old.pools
  pub asked : length new.asked ≡ length old.asked + length dues
  pub more : List Entry
  pub pushed : new.entries ≡ old.entries ++ more
  pub round : IsRound task old.entries (due_instances dues) more
  pub rest : (rest : List Due) (count : ℕ) → dues ≡ take count rest → AreReady task old.entries rest
      → AreReady task new.entries (drop count rest)

-- ---- one child

-- The session works, and the child was sent a request that isn't answered.
pub record Awaits (s : State) (child : ℕ) : Type 0 where
  pub working : s.failed ≡ false
  pub awaited : IsAwaited s.slots child

-- The child has a place of its own among the lines, and runs.
pub record IsUp (held : Held) (running : ℕ → Bool) (child : ℕ) : Type 0 where
  pub number : child < CHILDREN
  pub there : child < length held.started
  pub runs : running child ≡ true

-- Nothing changed of the other children, and none was started.
pub record KeepsOthers (before after : Held) (child : ℕ) : Type 0 where
  pub others : (k : ℕ) → k ≢ child → held_of after k ≡ held_of before k
  pub started : after.started ≡ before.started

-- The child doesn't run, and has words that start it.
pub record MayStart {A : Type 0} (held : Held) (child : ℕ) (argv : List A) : Type 0 where
  pub number : child < CHILDREN
  pub words : 0 < length argv
  pub idle : is_child_running held child ≡ false

-- The same bytes are kept, and if those that ran had said nothing those that run haven't either.
pub record KeepsSilent (before after : Held) (was now : ℕ → Option Talk) : Type 0 where
  pub kept : after.buffers ≡ before.buffers
  pub silent : AreSilent (is_child_running before) was → AreSilent (is_child_running after) now
