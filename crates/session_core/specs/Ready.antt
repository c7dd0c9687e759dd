-- Asks that wait for their round, and how many of them make the next.
use Rattle.std.specs.Prelude.{◌≡◌, ℕ, ◌+◌, ◌-◌, ◌≤◌, List, length, take, drop, All, true, Contains}
use Rattle.instance_queue.specs.Level.{due_instances}
use Rattle.instance_queue.specs.declared.due.Due.{Due}
use Rattle.lemmas.specs.Lists.{AreDistinct}
use Rattle.pools.specs.Pools.{shares_of}
use Rattle.task_model.specs.Known.{Known}
use Rattle.task_model.specs.Streams.{IsDue, Note, yields_of}
use Rattle.task_model.specs.declared.stream.Instance.{Instance}
use Rattle.task_model.specs.declared.task.Task.{Task}
use Rattle.transcript_model.specs.Rounds.{fits, IsFull}
use Rattle.transcript_model.specs.Transcript.{known_of, notes_of}
use Rattle.transcript_model.specs.declared.entry.Entry.{Entry}
use Rattle.session_core.specs.State.{State}

-- The asks are due over what is known and noted, each with its turn, and of different instances.
pub record AreAskable (task : Task) (known : Known) (notes : List Note) (dues : List Due) : Type 0 where
  pub due : (i : Instance) → Contains (due_instances dues) i → IsDue task known notes i
  pub turns : All (λ (d : Due). d.turn ≡ yields_of notes d.instance) dues
  pub distinct : AreDistinct (due_instances dues)

-- the asks may be made after the transcript
abbrev pub AreReady : Task → List Entry → List Due → Type 0
AreReady task entries dues = AreAskable task (known_of task entries) (notes_of task entries) dues

-- ---- rounds

-- how many more requests may be made
abbrev pub session_calls_left : State → ℕ
session_calls_left s = s.calls - length s.asked

-- The next round of a list of asks is its longest front that fits the workers, as far as calls are left.
pub record IsNextRound (s : State) (dues : List Due) (count : ℕ) : Type 0 where
  pub within : count ≤ length dues
  pub left : length s.asked + count ≤ s.calls
  pub fit : fits (shares_of s.pools) (due_instances (take count dues)) ≡ true
  pub full : IsFull (shares_of s.pools)
      (due_instances (take count dues)) (due_instances (drop count (take (session_calls_left s) dues)))
